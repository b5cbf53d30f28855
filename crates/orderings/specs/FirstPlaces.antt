-- The place of a number is the first at which it stands.
use Rattle.std.specs.Prelude.{◌≡◌, ℕ, zero, suc, ◌+◌, ◌<◌, ◌≤◌, ◌≢◌, List, [], ◌∷◌, length, Some, None, ◌==◌, slice_index, refl}
use Rattle.std.proofs.Common.{sym, ap, ◌∙◌, inl, inr, arith}
use Rattle.std.proofs.lemmas.Bool.{cond-true, cond-false, eq-eqb, ne_eqb, cases_eq}
use Rattle.orderings.specs.Places.{place_from}

here : (k x : ℕ) (xs : List ℕ) (n : ℕ) → x ≡ n → place_from k (x ∷ xs) n ≡ Some k
here k x xs n e = cond-true (x == n) (Some k) (place_from (k + 1) xs n) (eq-eqb x n e)

further : (k x : ℕ) (xs : List ℕ) (n : ℕ) → x ≢ n → place_from k (x ∷ xs) n ≡ place_from (k + 1) xs n
further k x xs n ne = cond-false (x == n) (Some k) (place_from (k + 1) xs n) (ne_eqb x n ne)

not_here : (k x : ℕ) (xs : List ℕ) (n : ℕ) → place_from k (x ∷ xs) n ≡ None → x ≢ n
not_here k x xs n e f = let found = here k x xs n f in let z : ◌≡◌ {A = ℕ} 0 1 = cc in omega arith

-- the first m places have another number
abbrev pub Absent : List ℕ → ℕ → ℕ → Type 0
Absent xs n m = (k : ℕ) → k < m → slice_index xs k ≢ n

pub absent_from : (k : ℕ) (xs : List ℕ) (n : ℕ) → Absent xs n (length xs) → place_from k xs n ≡ None
absent_from k [] n none = refl
absent_from k (x ∷ xs) n none =
    further k x xs n (none 0 (omega arith)) ∙ absent_from (k + 1) xs n (λ l h. none (suc l) (omega arith))

pub first_from : (k : ℕ) (xs : List ℕ) (n p : ℕ) → p < length xs → Absent xs n p → slice_index xs p ≡ n → place_from k xs n ≡ Some (k + p)
first_from k [] n p h none e = let z : ⊥ = omega arith in absurd z
first_from k (x ∷ xs) n zero h none e = here k x xs n e ∙ ap Some (omega arith)
first_from k (x ∷ xs) n (suc p) h none e =
    further k x xs n (none 0 (omega arith)) ∙ first_from (k + 1) xs n p (omega arith) (λ l g. none (suc l) (omega arith)) e ∙ ap Some (omega arith)

pub none_absent : (k : ℕ) (xs : List ℕ) (n : ℕ) → place_from k xs n ≡ None → Absent xs n (length xs)
none_absent k [] n e l h = let z : ⊥ = omega arith in absurd z
none_absent k (x ∷ xs) n e zero h = not_here k x xs n e
none_absent k (x ∷ xs) n e (suc l) h = none_absent (k + 1) xs n (sym (further k x xs n (not_here k x xs n e)) ∙ e) l (omega arith)

-- a place is counted from k
pub not_before : (k : ℕ) (xs : List ℕ) (n p : ℕ) → place_from k xs n ≡ Some p → k ≤ p
not_before k [] n p e = let z : ◌≡◌ {A = ℕ} 0 1 = cc in omega arith
not_before k (x ∷ xs) n p e =
    elim (cases_eq x n) [
      | inl f ↦ let found = here k x xs n f in let q : k ≡ p = cc in omega arith
      | inr ne ↦ let l = not_before (k + 1) xs n p (sym (further k x xs n ne) ∙ e) in omega arith
    ]

-- two numbers at one place are one
pub same_from : (k : ℕ) (xs : List ℕ) (i j p : ℕ) → place_from k xs i ≡ Some p → place_from k xs j ≡ Some p → i ≡ j
same_from k [] i j p e f = let z : ◌≡◌ {A = ℕ} 0 1 = cc in let w : ⊥ = omega arith in absurd w
same_from k (x ∷ xs) i j p e f =
    elim (cases_eq x i) [
      | inl u ↦
          elim (cases_eq x j) [
            | inl v ↦ sym u ∙ v
            | inr nv ↦
                let found = here k x xs i u in
                let q : k ≡ p = cc in
                let l = not_before (k + 1) xs j p (sym (further k x xs j nv) ∙ f) in
                let w : ⊥ = omega arith in
                absurd w
          ]
      | inr nu ↦
          elim (cases_eq x j) [
            | inl v ↦
                let found = here k x xs j v in
                let q : k ≡ p = cc in
                let l = not_before (k + 1) xs i p (sym (further k x xs i nu) ∙ e) in
                let w : ⊥ = omega arith in
                absurd w
            | inr nv ↦ same_from (k + 1) xs i j p (sym (further k x xs i nu) ∙ e) (sym (further k x xs j nv) ∙ f)
          ]
    ]
