-- The task that is named as missed is the lowest late one.
use Rattle.std.proofs.Common.{◌≡◌, ℕ, ◌+◌, ◌<◌, ◌≤◌, Bool, true, false, eqb, ltb, List, length, get_or, Some, None, Option, sym, ◌∙◌, arith, MatchOption}
use Rattle.std.proofs.lemmas.Bool.{eqb-true, ltb-true, eq-eqb, lt-ltb, and_parts, and_from, true≢false}
use Rattle.tables.specs.declared.task.Task.{Task}
use Rattle.tables.specs.Tasks.{nobody}
use Rattle.schedules.specs.declared.slot.Slot.{Slot}
use Rattle.schedules.specs.Units.{at, late, missed, Late, LowestLate}
use Rattle.firsts.proofs.Lowests.{lowest_is}
use Rattle.schedules.proofs.Picks.{ready_within}

module _ (ts : List Task) (ss : List Slot) where
  late_at : ℕ → Bool
  late_at k = late (get_or ts k nobody) (at ss k)

  late_says : (k : ℕ) → late_at k ≡ true → Late ts ss k
  unfolding late_at
  late_says k e =
      let parts = and_parts (eqb (at ss k).age (get_or ts k nobody).d) (ltb 0 (at ss k).left) e in
      (eqb-true _ _ parts.0, ltb-true _ _ parts.1)

  never_late : (k : ℕ) → late_at k ≡ false → Late ts ss k → ⊥
  unfolding late_at
  never_late k e h =
      true≢false (sym (and_from (eqb (at ss k).age (get_or ts k nobody).d) (ltb 0 (at ss k).left) (eq-eqb _ _ h.0) (lt-ltb _ _ h.1)) ∙ e)

  lowest_late : (o : Option ℕ) → MatchOption o ((k : ℕ) → 0 ≤ k → k < 0 + length ss → late_at k ≡ false) (λ i. (late_at i ≡ true) × ((k : ℕ) → 0 ≤ k → k < i → late_at k ≡ false)) → LowestLate ts ss o
  lowest_late None h = λ k l. let w = ready_within ss k l.1 in never_late k (h k (omega arith) (omega arith)) l
  lowest_late (Some i) h = (late_says i h.0, λ k below. never_late k (h.1 k (omega arith) below))

  pub missed_lowest : LowestLate ts ss (missed ts ss)
  unfolding late_at
  missed_lowest = lowest_late (missed ts ss) (lowest_is (λ k. late (get_or ts k nobody) (at ss k)) 0 (length ss))
