use Rattle.std.proofs.Common.{◌≡◌, ℕ, ◌+◌, ◌<◌, ◌≤◌, false, eqb, get_or}
use Rattle.tables.specs.Tasks.{nobody}
use Rattle.firsts.specs.Lowest.{lowest}
use Rattle.schedules.specs.Units.{older, at, late}
use Rattle.schedules.proofs.steps.grow.Given as goal

abbrev pub invariant-loop-k : goal.invariant-loop-k
invariant-loop-k l =
    ((i : ℕ) → i < l.k → at l.slots i ≡ older (at l.initial.slots i))
    × ((i : ℕ) → l.k ≤ i → at l.slots i ≡ at l.initial.slots i)
    × (l.due ≡ false → (i : ℕ) → i < l.k → eqb ((at l.initial.slots i).age + 1) (get_or l.tasks i nobody).t ≡ false)
    × (l.miss ≡ lowest (λ i. late (get_or l.tasks i nobody) (older (at l.initial.slots i))) 0 l.k)
