-- Words in a list of words.
use Rattle.std.proofs.Common.{◌≡◌, ℕ, Bool, true, false, eqb, List, [], ◌∷◌, map, length, Ok, Err, codes, sym, refl, ap, ◌∙◌, arith, true-eqb, false-eqb}
use Rattle.std.specs.Str.{bytes_eq}
use Rattle.std.proofs.lemmas.Slice.Eq.{bytes_eq-Decides}
use Rattle.std.proofs.lemmas.Bool.{cond-false}
use Rattle.desk.specs.declared.commands.Command.{Command}
use Rattle.desk.specs.declared.commands.Expected.TheVariants.{ACommand, NoMore}
use Rattle.desk.specs.Words.{lone_command, command_by, command_behind}

not_true : (b : Bool) → (b ≡ true → ⊥) → b ≡ false
not_true true h = absurd (h refl)
not_true false h = refl

differs : (xs ys : List ℕ) → (xs ≡ ys → ⊥) → bytes_eq xs ys ≡ false
differs xs ys h = not_true (bytes_eq xs ys) (λ t. h ((bytes_eq-Decides xs ys).0 t))

unknown : (w : List ℕ) (ws : List (List ℕ)) → (w ≡ codes "verdict" → ⊥) → (w ≡ codes "search" → ⊥) → (w ≡ codes "laxity" → ⊥) → (w ≡ codes "background" → ⊥) → command_behind w ws ≡ Err ACommand
unknown w ws v s l b =
    cond-false _ _ _ (differs w (codes "verdict") v)
    ∙ cond-false _ _ _ (differs w (codes "search") s)
    ∙ cond-false _ _ _ (differs w (codes "laxity") l)
    ∙ cond-false _ _ _ (differs w (codes "background") b)

module _ {X : Type 0} (word : X → List ℕ) where
  pub none_behind : (k : Command) (xs : List X) → true ≡ eqb (length xs) 0 → Ok k ≡ lone_command k (map word xs)
  none_behind k [] t = refl
  none_behind k (x ∷ xs) t = let z = true-eqb (length (x ∷ xs)) 0 t in absurd (let w : ⊥ = omega arith in w)

  pub some_behind : (k : Command) (xs : List X) → false ≡ eqb (length xs) 0 → Err NoMore ≡ lone_command k (map word xs)
  some_behind k [] t = absurd (false-eqb 0 0 t refl)
  some_behind k (x ∷ xs) t = refl

  pub no_command : (xs : List X) → length xs ≡ 0 → Err ACommand ≡ command_by (map word xs)
  no_command [] e = refl
  no_command (x ∷ xs) e = absurd (let w : ⊥ = omega arith in w)

  -- a first word that is no command's
  pub other_word : (x : X) (xs ys : List X) (w : List ℕ) → ys ≡ x ∷ xs → w ≡ word x
      → (w ≡ codes "verdict" → ⊥) → (w ≡ codes "search" → ⊥) → (w ≡ codes "laxity" → ⊥) → (w ≡ codes "background" → ⊥)
      → Err ACommand ≡ command_by (map word ys)
  other_word x xs ys w e is v s l b =
      sym (ap (λ zs. command_by (map word zs)) e ∙ ap (λ u. command_behind u (map word xs)) (sym is) ∙ unknown w (map word xs) v s l b)
