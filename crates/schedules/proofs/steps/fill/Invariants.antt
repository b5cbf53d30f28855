use Rattle.std.proofs.Common.{◌≡◌, ℕ, ◌<◌, get_or}
use Rattle.tables.specs.Tasks.{nobody}
use Rattle.schedules.specs.Units.{released, at}
use Rattle.schedules.proofs.steps.fill.Given as goal

abbrev pub invariant-loop-k : goal.invariant-loop-k
invariant-loop-k l = (i : ℕ) → i < l.k → at l.slots i ≡ released (get_or l.tasks i nobody)
