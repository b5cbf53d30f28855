-- Euclid's algorithm gives a common divisor that every common divisor divides; the least common multiple.
use Rattle.std.proofs.Common.{◌≡◌, ℕ, zero, suc, ◌-◌, ◌*◌, ◌/◌, ◌%◌, ◌<◌, ◌≤◌, sym, refl, ap, ◌∙◌, subst, mod-lt, mul_assoc, mul_comm, mul-pos, arith}
use Prim.Native.Nat.{◌∣◌}
use native.Mathlib.Nat.{dvd_refl, dvd-zero, dvd-mod_iff, dvd-sub, dvd-mul_right_of_dvd, dvd-mul_left, dvd-mul_right, mod_def, mul-sub, mul-dvd-mul_left, mul-dvd-mul_right, dvd_of_mul-dvd-mul_right, div-mul_cancel, pos_of_dvd_of_pos}
use Rattle.tables.specs.Divisors.{gcd_within, gcd, lcm}

-- more turns change nothing
pub turns : (m n a b : ℕ) → b ≤ m → b ≤ n → gcd_within m a b ≡ gcd_within n a b
turns zero zero a b hm hn = refl
turns zero (suc n) a zero hm hn = refl
turns zero (suc n) a (suc b) hm hn = let z : ⊥ = omega arith in absurd z
turns (suc m) zero a zero hm hn = refl
turns (suc m) zero a (suc b) hm hn = let z : ⊥ = omega arith in absurd z
turns (suc m) (suc n) a zero hm hn = refl
turns (suc m) (suc n) a (suc b) hm hn =
    let l : a % suc b < suc b = mod-lt a (omega arith) in
    turns m n (suc b) (a % suc b) (omega arith) (omega arith)

pub gcd_zero : (a : ℕ) → gcd a 0 ≡ a
unfolding gcd
gcd_zero a = refl

pub gcd_step : (a b : ℕ) → 0 < b → gcd a b ≡ gcd b (a % b)
unfolding gcd
gcd_step a zero h = omega arith
gcd_step a (suc n) h =
    let l : a % suc n < suc n = mod-lt a h in
    turns n (a % suc n) (suc n) (a % suc n) (omega arith) (omega arith)

-- a fact that Euclid's step keeps, from its end back to its start
pub by_euclid : (P : ℕ → ℕ → ℕ → Type 0) → ((a : ℕ) → P a 0 a) → ((a b g : ℕ) → 0 < b → P b (a % b) g → P a b g) → (n a b : ℕ) → b ≤ n → P a b (gcd a b)
by_euclid P end step n a zero h = subst (P a 0) (sym (gcd_zero a)) (end a)
by_euclid P end step zero a (suc b) h = let z : ⊥ = omega arith in absurd z
by_euclid P end step (suc n) a (suc b) h =
    let l : a % suc b < suc b = mod-lt a (omega arith) in
    subst (P a (suc b)) (sym (gcd_step a (suc b) (omega arith)))
    (step a (suc b) _ (omega arith) (by_euclid P end step n (suc b) (a % suc b) (omega arith)))

pub gcd_divides : (a b : ℕ) → (gcd a b ∣ a) × (gcd a b ∣ b)
gcd_divides a b =
    by_euclid (λ a b g. (g ∣ a) × (g ∣ b)) (λ a. (dvd_refl a, dvd-zero a))
    (λ a b g h p. ((dvd-mod_iff g {m = a} {n = b} p.0).0 p.1, p.0)) b a b (omega arith)

dvd_times_mod : (k m a b : ℕ) → m ∣ k * a → m ∣ k * b → m ∣ k * (a % b)
dvd_times_mod k m a b p q =
    let e : k * (a % b) ≡ k * a - k * b * (a / b) = ap (λ r. k * r) (mod_def a b) ∙ mul-sub k a (b * (a / b)) ∙ ap (λ r. k * a - r) (sym (mul_assoc k b (a / b))) in
    rw e (dvd-sub m p (dvd-mul_right_of_dvd m q (a / b)))

-- k times: what divides k * a and k * b divides k * gcd a b
pub gcd_greatest : (k m a b : ℕ) → m ∣ k * a → m ∣ k * b → m ∣ k * gcd a b
gcd_greatest k m a b =
    by_euclid (λ a b g. m ∣ k * a → m ∣ k * b → m ∣ k * g) (λ a p q. p)
    (λ a b g h go p q. go q (dvd_times_mod k m a b p q)) b a b (omega arith)

pub gcd_pos : (a b : ℕ) → 0 < a → 0 < gcd a b
gcd_pos a b h = pos_of_dvd_of_pos (gcd_divides a b).0 h

pub lcm_times : (a b : ℕ) → lcm a b * gcd a b ≡ a * b
lcm_times a b =
    mul_assoc (a / gcd a b) b (gcd a b) ∙ ap (λ r. a / gcd a b * r) (mul_comm b (gcd a b))
    ∙ sym (mul_assoc (a / gcd a b) (gcd a b) b) ∙ ap (λ r. r * b) (div-mul_cancel (gcd a b) (gcd_divides a b).0)

pub dvd_lcm_left : (a b : ℕ) → a ∣ lcm a b
dvd_lcm_left a b =
    let P : ℕ → Type 0 = λ r. r ∣ lcm a b in
    subst P (div-mul_cancel (gcd a b) (gcd_divides a b).0) (mul-dvd-mul_left (gcd a b) (a / gcd a b) (gcd_divides a b).1)

pub dvd_lcm_right : (a b : ℕ) → b ∣ lcm a b
dvd_lcm_right a b = dvd-mul_left b (a / gcd a b)

pub lcm_pos : (a b : ℕ) → 0 < a → 0 < b → 0 < lcm a b
lcm_pos a b ha hb =
    let d : lcm a b ∣ lcm a b * gcd a b = dvd-mul_right (lcm a b) (gcd a b) in
    pos_of_dvd_of_pos (rw (lcm_times a b) at d) (mul-pos ha hb)

-- it divides every common multiple
pub lcm_least : (a b m : ℕ) → 0 < a → a ∣ m → b ∣ m → lcm a b ∣ m
lcm_least a b m h p q =
    let u : a * b ∣ m * a = rw (mul_comm a b) (mul-dvd-mul_right b q a) in
    let v : a * b ∣ m * gcd a b = gcd_greatest m (a * b) a b u (mul-dvd-mul_right a p b) in
    dvd_of_mul-dvd-mul_right (lcm a b) (gcd_pos a b h) (rw (lcm_times a b) v)
