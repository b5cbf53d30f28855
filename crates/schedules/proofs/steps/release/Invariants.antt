use Rattle.std.proofs.Common.{◌≡◌, ℕ, ◌<◌, ◌≤◌, get_or}
use Rattle.tables.specs.Tasks.{nobody}
use Rattle.schedules.specs.Units.{renew, at}
use Rattle.schedules.proofs.steps.release.Given as goal

abbrev pub invariant-loop-k : goal.invariant-loop-k
invariant-loop-k l = ((i : ℕ) → i < l.k → at l.slots i ≡ renew (get_or l.tasks i nobody) (at l.initial.slots i)) × ((i : ℕ) → l.k ≤ i → at l.slots i ≡ at l.initial.slots i)
