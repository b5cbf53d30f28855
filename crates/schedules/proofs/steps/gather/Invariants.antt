use Rattle.std.proofs.Common.{◌≡◌, ◌≤◌, ◌++◌, take, drop}
use Rattle.schedules.specs.Units.{ready_from}
use Rattle.schedules.proofs.steps.gather.Given as goal

abbrev pub invariant-loop-k : goal.invariant-loop-k
invariant-loop-k l = (l.n ≤ l.k) × (take l.n l.ready ++ ready_from l.k (drop l.k l.slots) ≡ ready_from 0 l.slots)
