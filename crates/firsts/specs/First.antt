-- The first item of a list under an order.
use Rattle.std.specs.Prelude.{◌≡◌, Bool, true, cond, not, ◌≢◌, ◌⊎◌, List, [], ◌∷◌, Some, None, fold, Option, MatchOption}
use Rattle.std.specs.List.{AllByRecursion}

-- the better of what was found so far and one item more
abbrev pub better : {X : Type 0} → (X → X → Bool) → Option X → X → Option X
better lt None x = Some x
better lt (Some b) x = Some (cond (lt x b) x b)

-- from left to right, the best so far is kept
abbrev pub first_in_order : {X : Type 0} → (X → X → Bool) → List X → Option X
first_in_order lt xs = fold (better lt) None xs

abbrev pub In : {X : Type 0} → X → List X → Type 0
In y [] = ⊥
In y (x ∷ xs) = (y ≡ x) ⊎ In y xs

-- no item stands twice
abbrev pub Distinct : {X : Type 0} → List X → Type 0
Distinct [] = Unit {0}
Distinct (x ∷ xs) = AllByRecursion (λ y. x ≢ y) xs × Distinct xs

-- of two different items of the list exactly one precedes the other
abbrev pub ExclusiveOn : {X : Type 0} → (X → X → Bool) → List X → Type 0
ExclusiveOn {X} lt xs = (x y : X) → In x xs → In y xs → x ≢ y → lt y x ≡ not (lt x y)

abbrev pub TransitiveOn : {X : Type 0} → (X → X → Bool) → List X → Type 0
TransitiveOn {X} lt xs = (x y z : X) → In x xs → In y xs → In z xs → x ≢ y → y ≢ z → x ≢ z
    → lt x y ≡ true → lt y z ≡ true → lt x z ≡ true

-- x is in the list and precedes every other item
abbrev pub Leads : {X : Type 0} → (X → X → Bool) → List X → X → Type 0
Leads lt xs x = In x xs × AllByRecursion (λ y. y ≢ x → lt x y ≡ true) xs

-- no item of an empty list, else the one that leads
abbrev pub IsFirst : {X : Type 0} → (X → X → Bool) → List X → Option X → Type 0
IsFirst lt xs r = MatchOption r (xs ≡ []) (Leads lt xs)
