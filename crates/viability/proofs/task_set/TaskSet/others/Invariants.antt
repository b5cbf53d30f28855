use Rattle.bounded.specs.Lists.{items_of}
use Rattle.viability.specs.TaskSets.{members_of}
use Rattle.viability.proofs.Others.{OthersBelow}
use Rattle.viability.proofs.task_set.TaskSet.others.Given as goal

abbrev pub invariant-loop-j : goal.invariant-loop-j
invariant-loop-j l = OthersBelow l.self.tasks.now (members_of l.self) l.i l.j (items_of l.found)
