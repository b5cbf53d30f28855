-- What the lowest number that passes a test is, and how a search for it goes on.
use Rattle.std.proofs.Common.{◌≡◌, ℕ, zero, suc, ◌+◌, ◌<◌, ◌≤◌, Bool, true, false, cond, Some, None, Option, sym, refl, ap, ◌∙◌, subst, inl, inr, add-zero, arith, MatchOption}
use Rattle.std.proofs.lemmas.Bool.{cases_eq, cond-true, cond-false}
use Rattle.firsts.specs.Lowest.{lowest}

-- the lowest of one number more
pub lowest_kept : (p : ℕ → Bool) (a n i : ℕ) → lowest p a n ≡ Some i → lowest p a (suc n) ≡ Some i
lowest_kept p a zero i e = absurd (cc)
lowest_kept p a (suc n) i e =
    let P : Bool → Type 0 = λ v. cond v (Some a) (lowest p (a + 1) n) ≡ Some i → cond v (Some a) (lowest p (a + 1) (suc n)) ≡ Some i in
    (elim (p a) as P [ true ↦ λ h. h | false ↦ λ h. lowest_kept p (a + 1) n i h ]) e

-- nor do any number more change it
pub lowest_longer : (p : ℕ → Bool) (a n d i : ℕ) → lowest p a n ≡ Some i → lowest p a (n + d) ≡ Some i
lowest_longer p a n zero i e = ap (lowest p a) (add-zero n) ∙ e
lowest_longer p a n (suc d) i e = let s : n + suc d ≡ suc (n + d) = omega arith in ap (lowest p a) s ∙ lowest_kept p a (n + d) i (lowest_longer p a n d i e)

pub lowest_found : (p : ℕ → Bool) (a n k : ℕ) → k ≡ a + n → lowest p a n ≡ None → p k ≡ true → lowest p a (suc n) ≡ Some k
lowest_found p a zero k at e here = let same : k ≡ a = omega arith in cond-true (p a) _ _ (ap p (sym same) ∙ here) ∙ ap Some (sym same)
lowest_found p a (suc n) k at e here =
    let P : Bool → Type 0 = λ v. cond v (Some a) (lowest p (a + 1) n) ≡ None → cond v (Some a) (lowest p (a + 1) (suc n)) ≡ Some k in
    (elim (p a) as P [
      | true ↦ λ h. absurd (cc)
      | false ↦ λ h. lowest_found p (a + 1) n k (omega arith) h here
    ]) e

pub lowest_passed : (p : ℕ → Bool) (a n k : ℕ) → k ≡ a + n → lowest p a n ≡ None → p k ≡ false → lowest p a (suc n) ≡ None
lowest_passed p a zero k at e here = let same : k ≡ a = omega arith in cond-false (p a) _ _ (ap p (sym same) ∙ here)
lowest_passed p a (suc n) k at e here =
    let P : Bool → Type 0 = λ v. cond v (Some a) (lowest p (a + 1) n) ≡ None → cond v (Some a) (lowest p (a + 1) (suc n)) ≡ None in
    (elim (p a) as P [
      | true ↦ λ h. h
      | false ↦ λ h. lowest_passed p (a + 1) n k (omega arith) h here
    ]) e

-- tests that agree on the numbers looked at
pub lowest_same : (p q : ℕ → Bool) (a n : ℕ) → ((i : ℕ) → i < a + n → p i ≡ q i) → lowest p a n ≡ lowest q a n
lowest_same p q a zero same = refl
lowest_same p q a (suc n) same =
    ap (λ b. cond b (Some a) (lowest p (a + 1) n)) (same a (omega arith)) ∙ ap (cond (q a) (Some a)) (lowest_same p q (a + 1) n (λ i h. same i (omega arith)))

from_next : (p : ℕ → Bool) (a n : ℕ) → p a ≡ false → (o : Option ℕ)
    → MatchOption o ((k : ℕ) → a + 1 ≤ k → k < a + 1 + n → p k ≡ false) (λ i. (p i ≡ true) × ((k : ℕ) → a + 1 ≤ k → k < i → p k ≡ false))
    → MatchOption o ((k : ℕ) → a ≤ k → k < a + suc n → p k ≡ false) (λ i. (p i ≡ true) × ((k : ℕ) → a ≤ k → k < i → p k ≡ false))
from_next p a n e None h = λ k low high. elim (cases_eq k a) [ inl same ↦ ap p same ∙ e | inr ne ↦ h k (omega arith) (omega arith) ]
from_next p a n e (Some i) h = (h.0, λ k low high. elim (cases_eq k a) [ inl same ↦ ap p same ∙ e | inr ne ↦ h.1 k (omega arith) high ])

-- what the lowest number is
pub lowest_is : (p : ℕ → Bool) (a n : ℕ) → MatchOption (lowest p a n) ((k : ℕ) → a ≤ k → k < a + n → p k ≡ false) (λ i. (p i ≡ true) × ((k : ℕ) → a ≤ k → k < i → p k ≡ false))
lowest_is p a zero = λ k low high. absurd (let z : ⊥ = omega arith in z)
lowest_is p a (suc n) =
    let P : Bool → Type 0 = λ v. p a ≡ v → MatchOption (cond v (Some a) (lowest p (a + 1) n)) ((k : ℕ) → a ≤ k → k < a + suc n → p k ≡ false) (λ i. (p i ≡ true) × ((k : ℕ) → a ≤ k → k < i → p k ≡ false)) in
    (elim (p a) as P [
      | true ↦ λ e. (e, λ k low high. absurd (let z : ⊥ = omega arith in z))
      | false ↦ λ e. from_next p a n e (lowest p (a + 1) n) (lowest_is p (a + 1) n)
    ]) refl

-- the lowest number at which a test holds: none of one test where the other holds wherever it does
pub lowest_none : (p q : ℕ → Bool) → ((k : ℕ) → p k ≡ true → q k ≡ true) → (a n : ℕ) → lowest q a n ≡ None → lowest p a n ≡ None
lowest_none p q sub a zero e = refl
lowest_none p q sub a (suc n) e =
    let P : Bool → Bool → Type 0 = λ u v. (u ≡ true → v ≡ true) → cond v (Some a) (lowest q (a + 1) n) ≡ None → cond u (Some a) (lowest p (a + 1) n) ≡ None in
    let go : (u v : Bool) → P u v = λ u v. elim u as (λ u. P u v) [
      | true ↦ elim v as (λ v. P true v) [ true ↦ λ h e. e | false ↦ λ h e. grind arith ]
      | false ↦ elim v as (λ v. P false v) [ true ↦ λ h e. grind arith | false ↦ λ h e. lowest_none p q sub (a + 1) n e ]
    ] in
    go (p a) (q a) (sub a) e

-- none passes
pub lowest_fails : (p : ℕ → Bool) (a n : ℕ) → ((k : ℕ) → a ≤ k → k < a + n → p k ≡ false) → lowest p a n ≡ None
lowest_fails p a zero h = refl
lowest_fails p a (suc n) h = cond-false _ _ _ (h a (omega arith) (omega arith)) ∙ lowest_fails p (a + 1) n (λ k low high. h k (omega arith) (omega arith))

-- where none is found, none passes
pub lowest_none_fails : (p : ℕ → Bool) (a n : ℕ) → lowest p a n ≡ None → (k : ℕ) → a ≤ k → k < a + n → p k ≡ false
lowest_none_fails p a n e =
    let P : Option ℕ → Type 0 = λ o. MatchOption o ((k : ℕ) → a ≤ k → k < a + n → p k ≡ false) (λ i. (p i ≡ true) × ((k : ℕ) → a ≤ k → k < i → p k ≡ false)) in
    subst P e (lowest_is p a n)

-- what is found is one of the numbers looked at
pub lowest_range : (p : ℕ → Bool) (a n i : ℕ) → lowest p a n ≡ Some i → (a ≤ i) × (i < a + n)
lowest_range p a zero i e = absurd (cc)
lowest_range p a (suc n) i e =
    let P : Bool → Type 0 = λ v. cond v (Some a) (lowest p (a + 1) n) ≡ Some i → (a ≤ i) × (i < a + suc n) in
    (elim (p a) as P [
      | true ↦ λ h. let same : a ≡ i = cc in (omega arith, omega arith)
      | false ↦ λ h. let r = lowest_range p (a + 1) n i h in (omega arith, omega arith)
    ]) e
