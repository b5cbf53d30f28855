-- What follows a field. Each definition gives the place behind it, where bs is the text from the place `at` on.
use Rattle.std.specs.Prelude.{ℕ, ◌+◌, cond, ◌&&◌, List, [], ◌∷◌, Some, None, Option, ◌==◌, nat_lt}
use Rattle.table_text.specs.Fields.{comma, carriage_return}

abbrev pub line_feed : ℕ
line_feed = 10

abbrev pub past_comma : ℕ → List ℕ → Option ℕ
past_comma at [] = None
past_comma at (b ∷ bs) = cond (b == comma) (Some (at + 1)) None

-- a record ends with the text, or by a carriage return and a line feed
abbrev pub past_end : ℕ → List ℕ → Option ℕ
past_end at [] = Some at
past_end at (b ∷ []) = None
past_end at (b ∷ c ∷ bs) = cond (b == carriage_return && c == line_feed) (Some (at + 2)) None

-- a comma follows each field but the sixth, and the record's end follows that
abbrev pub past_separator : ℕ → ℕ → List ℕ → Option ℕ
past_separator k at bs = cond (nat_lt k 6) (past_comma at bs) (past_end at bs)
