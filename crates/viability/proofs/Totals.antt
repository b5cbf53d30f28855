-- Sums over the first numbers.
use Rattle.std.proofs.Common.{◌≡◌, ℕ, zero, suc, ◌+◌, ◌*◌, ◌<◌, ◌≤◌, Bool, true, false, cond, sym, refl, ap, ◌∙◌, inl, inr, mul-zero, mul-suc, arith}
use Rattle.std.proofs.lemmas.Bool.{cases_eq, cases_lt}
use Rattle.viability.specs.Totals.{total}

pub total_le : (f g : ℕ → ℕ) (n : ℕ) → ((k : ℕ) → k < n → f k ≤ g k) → total f n ≤ total g n
total_le f g zero h = omega arith
total_le f g (suc n) h =
    let before = total_le f g n (λ k l. h k (omega arith)) in
    let here = h n (omega arith) in
    omega arith

-- where one of the numbers falls by one and none rises, so does the sum
pub total_falls : (f g : ℕ → ℕ) (n i : ℕ) → i < n → f i + 1 ≤ g i → ((k : ℕ) → k < n → f k ≤ g k) → total f n + 1 ≤ total g n
total_falls f g zero i l one h = absurd (let z : ⊥ = omega arith in z)
total_falls f g (suc n) i l one h =
    elim (cases_eq i n) [
      | inl e ↦
          let before = total_le f g n (λ k l. h k (omega arith)) in
          let here : f n + 1 ≤ g n = rw (sym e) one in
          omega arith
      | inr ne ↦
          let before = total_falls f g n i (omega arith) one (λ k l. h k (omega arith)) in
          let here = h n (omega arith) in
          omega arith
    ]

pub total_plus : (f g : ℕ → ℕ) (n : ℕ) → total (λ k. f k + g k) n ≡ total f n + total g n
total_plus f g zero = refl
total_plus f g (suc n) = let e = total_plus f g n in omega arith

pub total_zero : (n : ℕ) → total (λ _. 0) n ≡ 0
total_zero zero = refl
total_zero (suc n) = let e = total_zero n in omega arith

-- rows and columns may be added up in either order
pub total_swap : (f : ℕ → ℕ → ℕ) (n q : ℕ) → total (λ r. total (λ j. f r j) n) q ≡ total (λ j. total (λ r. f r j) q) n
total_swap f n zero = sym (total_zero n)
total_swap f n (suc q) =
    ap (λ x. x + total (λ j. f q j) n) (total_swap f n q) ∙ sym (total_plus (λ j. total (λ r. f r j) q) (λ j. f q j) n)

-- a summand that is there is not more than the sum
pub total_has : (f : ℕ → ℕ) (n i : ℕ) → i < n → f i ≤ total f n
total_has f zero i l = absurd (let z : ⊥ = omega arith in z)
total_has f (suc n) i l = elim (cases_eq i n) [
  | inl e ↦ let here : f i ≡ f n = ap f e in omega arith
  | inr ne ↦ let before = total_has f n i (omega arith) in omega arith
]

-- a sum that is not 0 has a summand that is not
pub total_some : (f : ℕ → ℕ) (n : ℕ) → 0 < total f n → (i : ℕ) × (i < n) × (0 < f i)
total_some f zero h = absurd (let z : ⊥ = omega arith in z)
total_some f (suc n) h = elim (cases_lt 0 (f n)) [
  | inl here ↦ (n, omega arith, here)
  | inr none ↦ let r = total_some f n (omega arith) in let l = r.1 in (r.0, omega arith, r.2)
]

-- c for each number that passes a test
pub total_times : (c : ℕ) (p : ℕ → Bool) (n : ℕ) → total (λ r. cond (p r) c 0) n ≡ c * total (λ r. cond (p r) 1 0) n
total_times c p zero = sym (mul-zero c)
total_times c p (suc n) =
    let before = total_times c p n in
    let P : Bool → Type 0 = λ v. total (λ r. cond (p r) c 0) n + cond v c 0 ≡ c * (total (λ r. cond (p r) 1 0) n + cond v 1 0) in
    elim (p n) as P [
      | true ↦ let e = mul-suc c (total (λ r. cond (p r) 1 0) n) in
          let f : total (λ r. cond (p r) 1 0) n + 1 ≡ suc (total (λ r. cond (p r) 1 0) n) = omega arith in
          ap (λ x. x + c) before ∙ sym e ∙ ap (λ x. c * x) (sym f)
      | false ↦ let f : total (λ r. cond (p r) 1 0) n + 0 ≡ total (λ r. cond (p r) 1 0) n = omega arith in
          let g : total (λ r. cond (p r) c 0) n + 0 ≡ total (λ r. cond (p r) c 0) n = omega arith in
          g ∙ before ∙ ap (λ x. c * x) (sym f)
    ]
