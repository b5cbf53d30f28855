-- A search from t on for the lowest number up to d.
use Rattle.std.proofs.Common.{◌≡◌, ℕ, suc, ◌+◌, ◌-◌, ◌≤◌, Bool, true, false, Some, ap, ◌∙◌, arith}
use Rattle.std.proofs.lemmas.Bool.{cond-true, cond-false}
use Rattle.firsts.specs.Lowest.{lowest}

module _ (p : ℕ → Bool) (t d : ℕ) (left : t ≤ d) where
  one_more : lowest p t (d + 1 - t) ≡ lowest p t (suc (d - t))
  one_more = let n : d + 1 - t ≡ suc (d - t) = omega arith in ap (lowest p t) n

  pub search_found : p t ≡ true → lowest p t (d + 1 - t) ≡ Some t
  search_found here = one_more ∙ cond-true (p t) (Some t) (lowest p (t + 1) (d - t)) here

  pub search_passed : p t ≡ false → lowest p t (d + 1 - t) ≡ lowest p (t + 1) (d + 1 - (t + 1))
  search_passed here =
      let n : d - t ≡ d + 1 - (t + 1) = omega arith in
      one_more ∙ cond-false (p t) (Some t) (lowest p (t + 1) (d - t)) here ∙ ap (lowest p (t + 1)) n
