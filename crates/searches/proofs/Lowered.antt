-- One promotion time lowered.
use Rattle.std.proofs.Common.{◌≡◌, ℕ, ◌+◌, ◌-◌, ◌<◌, ◌≤◌, ◌≢◌, List, length, get_or, sum_by, ap, inl, inr, arith}
use Rattle.std.proofs.lemmas.List.{get_or_past, get_or-set_same, get_or-set_other}
use Rattle.std.proofs.lemmas.List.Sums.{sum_by-set}
use Rattle.std.proofs.lemmas.Bool.{cases_lt, cases_eq}
use Rattle.tables.specs.declared.task.Task.{Task}
use Rattle.tables.specs.Tasks.{nobody}
use Rattle.tables.specs.Setting.{with_promotion}
use Rattle.searches.specs.Searches.{lowered}

-- a number that is not in the table has no promotion time to lower
pub no_time_past : (ts : List Task) (i : ℕ) → length ts ≤ i → (get_or ts i nobody).s ≡ 0
no_time_past ts i h = ap (λ (x : Task). x.s) (get_or_past ts i nobody h)

module _ (ts : List Task) (i : ℕ) (h : 0 < (get_or ts i nobody).s) where
  within : i < length ts
  within = elim (cases_lt i (length ts)) [
    | inl l ↦ l
    | inr past ↦ let z = no_time_past ts i past in omega arith
  ]

  pub lowered_here : get_or (lowered ts i) i nobody ≡ with_promotion (get_or ts i nobody) ((get_or ts i nobody).s - 1)
  lowered_here = get_or-set_same ts i _ nobody within

  pub lowered_elsewhere : (k : ℕ) → k ≢ i → get_or (lowered ts i) k nobody ≡ get_or ts k nobody
  lowered_elsewhere k ne = get_or-set_other ts i k _ nobody ne

  pub lowered_falls : (k : ℕ) → (get_or (lowered ts i) k nobody).s ≤ (get_or ts k nobody).s
  lowered_falls k = elim (cases_eq k i) [
    | inl e ↦
        let z = ap (λ (x : Task). x.s) lowered_here in
        let a = ap (λ j. (get_or (lowered ts i) j nobody).s) e in
        let b = ap (λ j. (get_or ts j nobody).s) e in
        omega arith
    | inr ne ↦ let z = ap (λ (x : Task). x.s) (lowered_elsewhere k ne) in omega arith
  ]

  -- the sum of all promotion times falls by one
  pub lowered_sum : sum_by (λ x. x.s) (lowered ts i) + 1 ≡ sum_by (λ x. x.s) ts
  lowered_sum =
      let f : Task → ℕ = λ x. x.s in
      omega (arith, sum_by-set f ts i (with_promotion (get_or ts i nobody) ((get_or ts i nobody).s - 1)) nobody within)
