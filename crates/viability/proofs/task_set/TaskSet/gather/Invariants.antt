use Rattle.std.proofs.Common.{◌≡◌, ◌≤◌, length}
use Rattle.bounded.specs.Lists.{items_of}
use Rattle.viability.specs.TaskSets.{members_of}
use Rattle.viability.proofs.Gathered.{candidates_below}
use Rattle.viability.proofs.task_set.TaskSet.gather.Given as goal

abbrev pub invariant-loop-k : goal.invariant-loop-k
invariant-loop-k l = (length (items_of l.found) ≤ l.k) × (items_of l.found ≡ candidates_below l.self.tasks.now (members_of l.self) l.k)
