use Rattle.std.proofs.Common.{false, length}
use Rattle.std.proofs.Math.Seq.{take-set-lt}
use Rattle.viability.proofs.task_set.TaskSet.remove.Goals as goal

pub returns-clause-members : goal.returns-clause-members
returns-clause-members c = take-set-lt (length c.args.self.now.tasks.now) c.args.self.now.flags c.args.i false c.requires
