-- The background layer.
use Rattle.std.specs.Prelude.{ℕ, Bool, true, false, cond, List, Some, None, Option, ◌==◌, nat_lt}
use Rattle.orderings.specs.Meaning.{Meaning}
use Rattle.orderings.specs.Places.{place_in}

-- two jobs of different tasks, by their places in the list: one outside is ahead of one in it, of two in it the one that
-- stands later is ahead; two outside go as `rest` says
abbrev pub stands_later : Option ℕ → Option ℕ → Bool → Bool
stands_later (Some x) (Some y) rest = nat_lt y x
stands_later (Some x) None rest = false
stands_later None (Some y) rest = true
stands_later None None rest = rest

-- the tasks outside the list go by the ordering below, at the front
abbrev pub background : List ℕ → Meaning → Meaning
background xs lower i a j b = cond (i == j) false (stands_later (place_in xs i) (place_in xs j) (lower i a j b))
