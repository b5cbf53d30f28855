-- the slots after each step of a tick, place by place
use Rattle.std.proofs.Common.{◌≡◌, ℕ, ◌<◌, ◌≤◌, false, cond, eqb, ◌≢◌, List, map, length, get_or, set, sym, ap, ◌∙◌, inl, inr, arith}
use Rattle.std.proofs.lemmas.List.{ext_get_or, get_or-set_same, get_or-set_other, set_past, get_or_past, get_or-map, length-map}
use Rattle.std.proofs.lemmas.List.FromFn.{get_or-map-range_with_len, length-map-range_with_len}
use Rattle.std.proofs.lemmas.Bool.{cases_eq, cases_lt, eq-eqb, ne_eqb, cond-true, cond-false}
use Rattle.tables.specs.declared.task.Task.{Task}
use Rattle.schedules.specs.declared.slot.Slot.{Slot}
use Rattle.tables.specs.Tasks.{nobody}
use Rattle.schedules.specs.Units.{nothing, at, older, renew, renewed}

-- a write to one place, that keeps the age
module _ (ss : List Slot) (i : ℕ) (f : ℕ → ℕ) (none : f 0 ≡ 0) where
  abbrev put : List Slot
  put = set ss i (record { age = (at ss i).age; left = f (at ss i).left })

  pub put_same : (k : ℕ) → k ≡ i → at put k ≡ record { age = (at ss k).age; left = f (at ss k).left }
  put_same k e = elim (cases_lt i (length ss)) [
    | inl lt ↦ rw e (get_or-set_same ss i _ nothing lt)
    | inr le ↦ let past : at ss i ≡ nothing = get_or_past ss i nothing le in rw (e, set_past ss i _ le, past, none)
  ]

  pub put_other : (k : ℕ) → k ≢ i → at put k ≡ at ss k
  put_other k ne = get_or-set_other ss i k _ nothing ne

  pub put_age : (k : ℕ) → (at put k).age ≡ (at ss k).age
  put_age k = elim (cases_eq k i) [ inl e ↦ ap (λ s. s.age) (put_same k e) | inr ne ↦ ap (λ s. s.age) (put_other k ne) ]

  pub put_left : (k : ℕ) → (at put k).left ≡ cond (eqb k i) (f (at ss k).left) (at ss k).left
  put_left k = elim (cases_eq k i) [
    | inl e ↦ ap (λ s. s.left) (put_same k e) ∙ sym (cond-true _ _ _ (eq-eqb k i e))
    | inr ne ↦ ap (λ s. s.left) (put_other k ne) ∙ sym (cond-false _ _ _ (ne_eqb k i ne))
  ]

pub older_at : (ss : List Slot) (k : ℕ) → k < length ss → at (map older ss) k ≡ older (at ss k)
older_at ss k h = get_or-map older ss k nothing nothing h

pub older_past : (ss : List Slot) (k : ℕ) → length ss ≤ k → at (map older ss) k ≡ nothing
older_past ss k h = get_or_past (map older ss) k nothing (rw (length-map ss older) h)

pub renewed_at : (ts : List Task) (ss : List Slot) (k : ℕ) → k < length ss → at (renewed ts ss) k ≡ renew (get_or ts k nobody) (at ss k)
renewed_at ts ss k h = get_or-map-range_with_len (λ k. renew (get_or ts k nobody) (at ss k)) 0 (length ss) k k nothing h (omega arith)

pub renewed_length : (ts : List Task) (ss : List Slot) → length (renewed ts ss) ≡ length ss
renewed_length ts ss = length-map-range_with_len (λ k. renew (get_or ts k nobody) (at ss k)) 0 (length ss)

pub renewed_past : (ts : List Task) (ss : List Slot) (k : ℕ) → length ss ≤ k → at (renewed ts ss) k ≡ nothing
renewed_past ts ss k h = get_or_past (renewed ts ss) k nothing (rw (renewed_length ts ss) h)

-- where no task has come to its period, nothing is released
pub renewed_same : (ts : List Task) (ss : List Slot) → ((k : ℕ) → k < length ss → eqb (at ss k).age (get_or ts k nobody).t ≡ false) → renewed ts ss ≡ ss
renewed_same ts ss none =
    ext_get_or nothing (renewed ts ss) ss (renewed_length ts ss)
    (λ k h. let h' : k < length ss = omega (arith, renewed_length ts ss) in renewed_at ts ss k h' ∙ cond-false _ _ _ (none k h'))
