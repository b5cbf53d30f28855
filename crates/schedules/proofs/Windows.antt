-- How often a task becomes active within a number of consecutive instants.
use Rattle.std.proofs.Common.{◌≡◌, ℕ, zero, suc, ◌+◌, ◌-◌, ◌*◌, ◌/◌, ◌%◌, ◌<◌, ◌≤◌, Bool, true, false, cond, eqb, ◌⊎◌, sym, refl, ◌∙◌, inl, inr, suc-mul, mul-le-mul_left, le-div_iff_mul-le, zero-mul, mul-suc, arith}
use native.Mathlib.Nat.{div-add-mod}
use Rattle.std.proofs.lemmas.Bool.{cases_lt, eqb-true}
use Rattle.viability.specs.Totals.{total}
use Rattle.viability.specs.Viable.{rounded_up}

-- two numbers with the same remainder lie at least the divisor apart
apart : (x y T : ℕ) → x < y → x % T ≡ y % T → x + T ≤ y
apart x y T h e =
    let dx = div-add-mod x T in
    let dy = div-add-mod y T in
    elim (cases_lt (x / T) (y / T)) [
      | inl less ↦
          let far = mul-le-mul_left {m = suc (x / T)} {n = y / T} T (omega arith) in
          let one = mul-suc T (x / T) in
          omega arith
      | inr same ↦
          let near = mul-le-mul_left {m = y / T} {n = x / T} T same in
          let z : ⊥ = omega arith in absurd z
    ]

-- of the instants from s on, the r-th is one at which the remainder by T is o
module _ (T o s : ℕ) (pos : 0 < T) where
  abbrev hit : ℕ → Bool
  hit r = eqb ((s + r) % T) o

  -- how many of the first q
  abbrev pub hits : ℕ → ℕ
  hits q = total (λ r. cond (eqb ((s + r) % T) o) 1 0) q

  -- the last of them lies far enough behind the first
  record Last (q : ℕ) : Type 0 where
    pub before : ℕ
    pub count : hits q ≡ suc before
    pub last : ℕ
    pub within : last < q
    pub is : (s + last) % T ≡ o
    pub far : before * T ≤ last

  spread : (q : ℕ) → (hits q ≡ 0) ⊎ Last q
  spread zero = inl refl
  spread (suc q) =
      let P : Bool → Type 0 = λ v. hit q ≡ v → (hits q + cond v 1 0 ≡ 0) ⊎ Last (suc q) in
      let none : hit q ≡ false → (hits q ≡ 0) ⊎ Last (suc q) = λ e. elim (spread q) [
        | inl z ↦ inl z
        | inr l ↦ inr (record {
          before = l.before;
          count = (let c = l.count in rw e (let f : hits q + 0 ≡ suc l.before = omega arith in f));
          last = l.last;
          within = (let w = l.within in omega arith);
          is = l.is;
          far = l.far;
        })
      ] in
      let one : hit q ≡ true → Last (suc q) = λ e. elim (spread q) [
        | inl z ↦ record {
          before = 0;
          count = rw e (let f : hits q + 1 ≡ 1 = omega arith in f);
          last = q;
          within = omega arith;
          is = eqb-true ((s + q) % T) o e;
          far = (let f = zero-mul T in omega arith);
        }
        | inr l ↦ record {
          before = suc l.before;
          count = (let c = l.count in rw e (let f : hits q + 1 ≡ suc (suc l.before) = omega arith in f));
          last = q;
          within = omega arith;
          is = eqb-true ((s + q) % T) o e;
          far = (
              let w = l.within in
              let a = apart (s + l.last) (s + q) T (omega arith) (l.is ∙ sym (eqb-true ((s + q) % T) o e)) in
              let f = l.far in
              let g = suc-mul l.before T in
              omega arith
              );
        }
      ] in
      (elim (hit q) as P [
        | true ↦ λ e. inr (one e)
        | false ↦ λ e. elim (none e) [ inl z ↦ inl (let f : hits q + 0 ≡ 0 = omega arith in f) | inr l ↦ inr l ]
      ]) refl

  -- in q consecutive instants at most q / T, rounded up
  pub hits_few : (q : ℕ) → hits q ≤ rounded_up q T
  hits_few q = elim (spread q) [
    | inl z ↦ omega arith
    | inr l ↦
        let c = l.count in
        let f = l.far in
        let w = l.within in
        let g = suc-mul l.before T in
        let room : suc l.before * T ≤ q + (T - 1) = omega arith in
        let few = (le-div_iff_mul-le {k = T} {x = suc l.before} {y = q + (T - 1)} pos).1 room in
        omega arith
  ]
