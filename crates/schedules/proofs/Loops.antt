-- The loops of a unit.
use Rattle.std.proofs.Common.{◌≡◌, ℕ, ◌+◌, ◌<◌, ◌≤◌, Bool, true, false, cond, ◌||◌, ltb, List, [], ◌∷◌, ◌++◌, length, take, drop, set, Some, None, Option, sym, ap, ◌∙◌, inl, inr, append_assoc, add-zero, add-one, arith, below_more}
use Rattle.std.specs.Option.{option_or}
use mir.Val.{bool_byte}
use Rattle.std.proofs.lemmas.List.{take-set, take_more_set, at_drop_more, at_drop_all, append-nil}
use Rattle.std.proofs.lemmas.Bool.{cases_lt, cond-true, cond-false, lt-ltb, le-ltb, or_parts}
use Rattle.firsts.specs.Lowest.{lowest}
use Rattle.firsts.proofs.Lowests.{lowest_kept, lowest_found, lowest_passed}
use Rattle.schedules.specs.declared.slot.Slot.{Slot}
use Rattle.firsts.specs.declared.job.Job.{Job}
use Rattle.schedules.specs.Units.{nothing, at, ready_from}

-- a miss that was found before is the lowest of one number more
miss_kept : (p : ℕ → Bool) (k i : ℕ) → Some i ≡ lowest p 0 k → Some i ≡ lowest p 0 (k + 1)
miss_kept p k i e = sym (lowest_kept p 0 k i (sym e)) ∙ ap (lowest p 0) (sym (add-one k))

-- the loop's step at a late task, and at another
pub miss_found : (p : ℕ → Bool) (k : ℕ) (m : Option ℕ) → m ≡ lowest p 0 k → p k ≡ true → option_or m (Some k) ≡ lowest p 0 (k + 1)
miss_found p k None e here = sym (lowest_found p 0 k k (omega arith) (sym e) here) ∙ ap (lowest p 0) (sym (add-one k))
miss_found p k (Some i) e here = miss_kept p k i e

pub miss_passed : (p : ℕ → Bool) (k : ℕ) (m : Option ℕ) → m ≡ lowest p 0 k → p k ≡ false → m ≡ lowest p 0 (k + 1)
miss_passed p k None e here = sym (lowest_passed p 0 k k (omega arith) (sym e) here) ∙ ap (lowest p 0) (sym (add-one k))
miss_passed p k (Some i) e here = miss_kept p k i e

-- no task so far has come to its period, nor has this one
pub none_due_more : (q : ℕ → Bool) (due here : Bool) (k : ℕ) → (due ≡ false → (i : ℕ) → i < k → q i ≡ false) → here ≡ q k → (due || here) ≡ false → (i : ℕ) → i < k + 1 → q i ≡ false
none_due_more q due here k before e none i h =
    let parts = or_parts due here none in
    below_more (λ n. q n ≡ false) k (before parts.0) (sym e ∙ parts.1) i h

module _ (ss : List Slot) (i : ℕ) (jobs : List Job) (n : ℕ) (within : i < length ss) (room : n < length jobs)
    (so_far : take n jobs ++ ready_from i (drop i ss) ≡ ready_from 0 ss) where
  opened : ready_from i (drop i ss) ≡ cond (ltb 0 (at ss i).left) (record { task = i; age = (at ss i).age } ∷ ready_from (i + 1) (drop (i + 1) ss)) (ready_from (i + 1) (drop (i + 1) ss))
  opened = at_drop_more (ready_from i) ss i nothing within

  ready_yes : 0 < (at ss i).left → take (n + 1) (set jobs n (record { task = i; age = (at ss i).age })) ++ ready_from (i + 1) (drop (i + 1) ss) ≡ ready_from 0 ss
  ready_yes r =
      let j : Job = record { task = i; age = (at ss i).age } in
      ap (λ u. u ++ ready_from (i + 1) (drop (i + 1) ss)) (take_more_set jobs n j room)
      ∙ append_assoc (take n jobs) (j ∷ []) (ready_from (i + 1) (drop (i + 1) ss))
      ∙ ap (λ u. take n jobs ++ u) (sym (opened ∙ cond-true _ _ _ (lt-ltb 0 _ r)))
      ∙ so_far

  ready_no : (at ss i).left ≤ 0 → take n (set jobs n (record { task = i; age = (at ss i).age })) ++ ready_from (i + 1) (drop (i + 1) ss) ≡ ready_from 0 ss
  ready_no r =
      let j : Job = record { task = i; age = (at ss i).age } in
      ap (λ u. u ++ ready_from (i + 1) (drop (i + 1) ss)) (take-set jobs n j)
      ∙ ap (λ u. take n jobs ++ u) (sym (opened ∙ cond-false _ _ _ (le-ltb 0 _ r)))
      ∙ so_far

  -- the job is written in any case, and counted if it is ready
  pub ready_counted : (b : ℕ) → b ≡ bool_byte (ltb 0 (at ss i).left)
      → (b ≤ 1) × (take (n + b) (set jobs n (record { task = i; age = (at ss i).age })) ++ ready_from (i + 1) (drop (i + 1) ss) ≡ ready_from 0 ss)
  ready_counted b e =
      let j : Job = record { task = i; age = (at ss i).age } in
      elim (cases_lt 0 (at ss i).left) [
        | inl r ↦ let one : b ≡ 1 = e ∙ ap bool_byte (lt-ltb 0 (at ss i).left r) in
            (omega arith, ap (λ k. take (n + k) (set jobs n j) ++ ready_from (i + 1) (drop (i + 1) ss)) one ∙ ready_yes r)
        | inr r ↦ let none : b ≡ 0 = e ∙ ap bool_byte (le-ltb 0 (at ss i).left r) in
            (omega arith, ap (λ k. take (n + k) (set jobs n j) ++ ready_from (i + 1) (drop (i + 1) ss)) none ∙ ap (λ k. take k (set jobs n j) ++ ready_from (i + 1) (drop (i + 1) ss)) (add-zero n) ∙ ready_no r)
      ]

pub ready_all : (ss : List Slot) (i : ℕ) (jobs : List Job) (n : ℕ) → length ss ≤ i → take n jobs ++ ready_from i (drop i ss) ≡ ready_from 0 ss → take n jobs ≡ ready_from 0 ss
ready_all ss i jobs n past so_far =
    sym (append-nil (take n jobs)) ∙ ap (λ u. take n jobs ++ u) (sym (at_drop_all (ready_from i) ss i past)) ∙ so_far
