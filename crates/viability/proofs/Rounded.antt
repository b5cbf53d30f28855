-- A quotient that is rounded up: the library's is the definition's.
use Rattle.std.proofs.Common.{◌≡◌, ℕ, suc, ◌+◌, ◌-◌, ◌*◌, ◌/◌, ◌%◌, ◌<◌, ◌≤◌, min, sym, ap, ◌∙◌, inl, inr, arith}
use Rattle.std.proofs.Math.Nat.{suc-mul}
use Rattle.std.proofs.lemmas.Bool.{cases_lt}
use Rattle.std.proofs.lemmas.Nat.{div-mul-add, div-add-mod', mod_below}
use Rattle.viability.specs.Viable.{rounded_up}

pub ceil_is : (n d : ℕ) → 1 ≤ d → n / d + min 1 (n % d) ≡ rounded_up n d
ceil_is n d h =
    let whole = div-add-mod' n d in
    let low : n % d < d = mod_below n d h in
    let more = suc-mul (n / d) d in
    elim (cases_lt 0 (n % d)) [
      | inl rest ↦
          let up : n + (d - 1) ≡ suc (n / d) * d + (n % d - 1) = omega arith in
          let one : n / d + min 1 (n % d) ≡ suc (n / d) = omega arith in
          one ∙ sym (ap (λ x. x / d) up ∙ div-mul-add (suc (n / d)) d (n % d - 1) (omega arith))
      | inr none ↦
          let up : n + (d - 1) ≡ n / d * d + (d - 1) = omega arith in
          let same : n / d + min 1 (n % d) ≡ n / d = omega arith in
          same ∙ sym (ap (λ x. x / d) up ∙ div-mul-add (n / d) d (d - 1) (omega arith))
    ]
