-- Lists of numbers, and where a number stands in one.
use Rattle.std.specs.Prelude.{ℕ, ◌<◌, ◌≢◌, List, length, Option, ◌==◌, slice_index}
use Rattle.std.specs.List.{position_from}
use Rattle.bounded.specs.declared.list.Bounded.{Bounded}
use Rattle.bounded.specs.Lists.{items_of}

-- the numbers in use
abbrev pub listed : Bounded ℕ 32 → List ℕ
listed p = items_of p

abbrev pub NoneTwice : List ℕ → Type 0
NoneTwice xs = (k l : ℕ) → k < l → l < length xs → slice_index xs k ≢ slice_index xs l

-- where a number first stands in a list whose places are counted from k
abbrev pub place_from : ℕ → List ℕ → ℕ → Option ℕ
place_from k xs n = position_from (λ x. x == n) k xs

-- the place of a number in a list, if it is there
abbrev pub place_in : List ℕ → ℕ → Option ℕ
place_in xs n = place_from 0 xs n
