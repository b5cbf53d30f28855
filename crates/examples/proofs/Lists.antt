-- Lists of equal items.
use Rattle.std.proofs.Common.{◌≡◌, [], ◌∷◌, ap, ◌∙◌}

pub two : {X : Type 0} (x y a b : X) → x ≡ a → y ≡ b → x ∷ y ∷ [] ≡ a ∷ b ∷ []
two x y a b e f = ap (λ u. u ∷ y ∷ []) e ∙ ap (λ u. a ∷ u ∷ []) f

pub three : {X : Type 0} (x y z a b c : X) → x ≡ a → y ≡ b → z ≡ c → x ∷ y ∷ z ∷ [] ≡ a ∷ b ∷ c ∷ []
three x y z a b c e f g = ap (λ u. u ∷ y ∷ z ∷ []) e ∙ ap (λ u. a ∷ u) (two y z b c f g)
