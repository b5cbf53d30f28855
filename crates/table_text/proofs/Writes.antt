-- Writes to a buffer, one after the other.
use Rattle.std.proofs.Common.{◌≡◌, ℕ, ◌+◌, ◌-◌, ◌≤◌, List, ◌++◌, take, drop, sym, ap, ◌∙◌, subst, append_assoc, arith}
use Rattle.std.proofs.lemmas.List.{drop-drop, length-append}
use Rattle.table_text.specs.Puts.{Put}

later : (m n : ℕ) (a b : List ℕ) → m ≤ n → drop m b ≡ drop m a → drop n b ≡ drop n a
later m n a b h e =
    let s : m + (n - m) ≡ n = omega arith in
    ap (λ k. drop k b) (sym s) ∙ sym (drop-drop (n - m) m b) ∙ ap (drop (n - m)) e ∙ drop-drop (n - m) m a ∙ ap (λ k. drop k a) s

pub put_then : (a b c : List ℕ) (at p q : ℕ) (s t : List ℕ) → Put a b at p s → Put b c p q t → Put a c at q (s ++ t)
put_then a b c at p q s t x y = record {
  place = let l = length-append s t in omega arith;
  front = y.front ∙ ap (λ r. r ++ t) x.front ∙ append_assoc (take at a) s t;
  back = y.back ∙ later p q a b (omega arith) x.back;
}

pub put_as : (a b : List ℕ) (at p : ℕ) (s t : List ℕ) → s ≡ t → Put a b at p s → Put a b at p t
put_as a b at p s t e x = subst (Put a b at p) e x
