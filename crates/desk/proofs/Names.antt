-- A name among all names.
use Rattle.std.proofs.Common.{◌≡◌, ℕ, ◌+◌, ◌<◌, ◌≤◌, Bool, true, false, cond, List, get_or, drop, Some, None, sym, ap, ◌∙◌}
use Rattle.std.specs.Str.{bytes_eq}
use Rattle.std.proofs.lemmas.List.{at_drop_more, at_drop_all}
use Rattle.std.proofs.lemmas.Bool.{cond-true, cond-false}
use Rattle.desk.specs.declared.naming.Named.{Named}
use Rattle.desk.specs.Words.{all_named, named_in, named_text}

-- the word is the name at place i, or it is sought behind it
module _ (w name : List ℕ) (i : ℕ) (d : Named) (r : Bool) (h : i < 9)
    (same : r ≡ bytes_eq w name) (is : name ≡ named_text (get_or all_named i d)) where
  found : bytes_eq w (named_text (get_or all_named i d)) ≡ r
  found = ap (bytes_eq w) (sym is) ∙ sym same

  here_or_behind : named_in (drop i all_named) w ≡ cond r (Some (get_or all_named i d)) (named_in (drop (i + 1) all_named) w)
  here_or_behind =
      at_drop_more (λ ns. named_in ns w) all_named i d h
      ∙ ap (λ b. cond b (Some (get_or all_named i d)) (named_in (drop (i + 1) all_named) w)) found

  pub here : r ≡ true → named_in (drop i all_named) w ≡ Some (get_or all_named i d)
  here t = here_or_behind ∙ cond-true _ _ _ t

  pub behind : r ≡ false → named_in (drop i all_named) w ≡ named_in (drop (i + 1) all_named) w
  behind t = here_or_behind ∙ cond-false _ _ _ t

pub nowhere : (w : List ℕ) (i : ℕ) → 9 ≤ i → named_in (drop i all_named) w ≡ None
nowhere w i h = at_drop_all (λ ns. named_in ns w) all_named i h
