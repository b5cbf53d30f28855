-- A background list stands for the list of its numbers; all promises speak of that list.
use Rattle.std.specs.Prelude.{ℕ, Bool, cond, not, ◌&&◌, List, [], ◌∷◌, ◌++◌, length, is_some, nat_lt}
use Rattle.orderings.specs.Places.{listed, place_in}
use Rattle.orderings.specs.declared.background_list.BackgroundList.{BackgroundList}

abbrev pub numbers_of : BackgroundList → List ℕ
numbers_of l = listed l.places

-- a number is taken where fewer than 32 are in the list and it is not
abbrev pub takes_number : List ℕ → ℕ → Bool
takes_number xs n = nat_lt (length xs) 32 && not (is_some (place_in xs n))

-- and stands at the end then
abbrev pub numbers_after_taking : List ℕ → ℕ → List ℕ
numbers_after_taking xs n = cond (takes_number xs n) (xs ++ n ∷ []) xs
