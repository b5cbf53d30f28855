-- Pushes, one after the other.
use Rattle.std.proofs.Common.{◌≡◌, ℕ, zero, suc, ◌+◌, ◌<◌, ◌≤◌, List, [], ◌∷◌, ◌++◌, length, get_or, take, sym, refl, ap, ◌∙◌, append_assoc, arith}
use Rattle.std.proofs.lemmas.List.{append-nil, take_all, take_more, length-append}
use Rattle.texts.specs.declared.text.Text.{Text}
use Rattle.bounded.proofs.Held.{length_items, items_few}
use Rattle.texts.specs.Texts.{bytes_of, pushed}

cut_again : (n : ℕ) (a b : List ℕ) → take n (take n a ++ b) ≡ take n (a ++ b)
cut_again zero a b = refl
cut_again (suc n) [] b = refl
cut_again (suc n) (x ∷ a) b = ap (λ r. x ∷ r) (cut_again n a b)

module _ (room : ℕ) where
  -- nothing is cut off of what fits
  pub pushed_all : (a b : List ℕ) → length a + length b ≤ room → pushed room a b ≡ a ++ b
  unfolding pushed
  pushed_all a b h = take_all room (a ++ b) (let n = length-append a b in omega arith)

  -- one push after another is a push of both
  pub pushed_then : (a b c : List ℕ) → pushed room (pushed room a b) c ≡ pushed room a (b ++ c)
  unfolding pushed
  pushed_then a b c = cut_again room (a ++ b) c ∙ ap (take room) (append_assoc a b c)

  pub pushed_next : (old mid last a b : List ℕ) → mid ≡ pushed room old a → last ≡ pushed room mid b → last ≡ pushed room old (a ++ b)
  pushed_next old mid last a b e f = f ∙ ap (λ r. pushed room r b) e ∙ pushed_then old a b

  -- one turn of a loop over bytes
  pub pushed_more : (a s now next : List ℕ) (i : ℕ) → i < length s → now ≡ pushed room a (take i s) → next ≡ pushed room now (get_or s i 0 ∷ []) → next ≡ pushed room a (take (i + 1) s)
  pushed_more a s now next i h e f =
      pushed_next a now next (take i s) (get_or s i 0 ∷ []) e f ∙ ap (pushed room a) (sym (take_more s i 0 h))

module _ {N : ℕ} (t : Text N) where
  pub length_bytes : length (bytes_of t) ≡ t.list.count
  length_bytes = length_items t.list

  -- no byte behind a text
  pub pushed_none : bytes_of t ≡ pushed N (bytes_of t) []
  pushed_none = sym (pushed_all N (bytes_of t) [] (let n = items_few t.list in omega arith) ∙ append-nil (bytes_of t))
