-- The loop that takes one task after the other from the set of all tasks.
use Rattle.std.proofs.Common.{◌≡◌, ℕ, suc, ◌+◌, ◌-◌, ◌<◌, ◌≤◌, Bool, true, false, List, [], ◌∷◌, ◌++◌, length, is_some, Some, sym, refl, ap, ◌∙◌, inl, inr, arith}
use Rattle.std.specs.List.{AllByRecursion}
use Rattle.std.proofs.lemmas.Bool.{cases_eq, cond-false, ne_eqb, both_ways}
use Rattle.std.proofs.lemmas.List.{append_assoc, length_push, get_or-set_other}
use Rattle.std.proofs.ByRecursion.{All-push, All-weaker}
use Rattle.tables.specs.declared.task.Task.{Task}
use Rattle.orderings.specs.Places.{place_from}
use Rattle.orderings.specs.BackgroundList.{takes_number}
use Rattle.orderings.specs.Placed.{takes_new}
use Rattle.viability.specs.declared.candidate.Candidate.{Candidate}
use Rattle.viability.specs.Viable.{is_in}
use Rattle.viability.specs.OwnList.{next_taken, without, taken_from, own_list}
use Rattle.viability.proofs.Owned.{next_is, left_out}

-- a number stands in no list of numbers that are out of a set that it is in
not_listed : (members : List Bool) (k : ℕ) (xs : List ℕ) (n : ℕ) → AllByRecursion (λ x. is_in members x ≡ false) xs → is_in members n ≡ true → is_some (place_from k xs n) ≡ false
not_listed members k [] n out here = refl
not_listed members k (x ∷ xs) n out here =
    ap is_some (cond-false _ (Some k) (place_from (k + 1) xs n) (ne_eqb x n (λ e. both_ways (is_in members n) (ap (is_in members) (sym e) ∙ out.0) here)))
    ∙ not_listed members (k + 1) xs n out.1 here

-- k tasks xs were taken, and what is left of the set gives the rest of the list
pub record Taking (ts : List Task) (members : List Bool) (xs : List ℕ) (k : ℕ) : Type 0 where
  pub count : length xs ≡ k
  pub out : AllByRecursion (λ x. is_in members x ≡ false) xs
  pub whole : xs ++ taken_from ts members (next_taken ts members) (length ts - k) ≡ own_list ts

module _ {ts : List Task} {members : List Bool} {xs : List ℕ} {k : ℕ} (u : Taking ts members xs k) (x : Candidate)
    (next : next_taken ts members ≡ Some x) (more : k < length ts) where
  -- the list has room for it, and does not have it yet
  pub taking_takes : length ts ≤ 32 → takes_number xs x.task ≡ true
  taking_takes few =
      let n = u.count in
      takes_new xs x.task (omega arith) (not_listed members 0 xs x.task u.out (next_is ts members x next).1)

  still_out : (y : ℕ) → is_in members y ≡ false → is_in (without members x.task) y ≡ false
  still_out y e = elim (cases_eq y x.task) [
    | inl same ↦ ap (is_in (without members x.task)) same ∙ left_out members x.task
    | inr ne ↦ get_or-set_other members x.task y false false ne ∙ e
  ]

  pub taking_more : Taking ts (without members x.task) (xs ++ x.task ∷ []) (k + 1)
  taking_more =
      let left = without members x.task in
      let n : length ts - k ≡ suc (length ts - (k + 1)) = omega arith in
      let opened : taken_from ts members (next_taken ts members) (length ts - k) ≡ x.task ∷ taken_from ts left (next_taken ts left) (length ts - (k + 1)) =
      ap (λ o. taken_from ts members o (length ts - k)) next ∙ ap (taken_from ts members (Some x)) n in
      record {
        count = length_push xs x.task ∙ ap (λ m. m + 1) u.count;
        out = All-push (λ y. is_in left y ≡ false) xs x.task (All-weaker (λ y. is_in members y ≡ false) (λ y. is_in left y ≡ false) still_out xs u.out) (left_out members x.task);
        whole = append_assoc xs (x.task ∷ []) (taken_from ts left (next_taken ts left) (length ts - (k + 1))) ∙ ap (λ v. xs ++ v) (sym opened) ∙ u.whole;
      }
