-- A field of a table text: where it ends, and the number that it writes.
use Rattle.std.specs.Prelude.{ℕ, ◌+◌, ◌-◌, ◌*◌, Bool, cond, not, ◌&&◌, ◌||◌, List, [], ◌∷◌, length, take, drop, Some, None, Ok, Err, Option, Result, ◌==◌, nat_le, slice_index}
use Rattle.std.specs.List.{prefix_len}
use Rattle.refusals.specs.declared.kinds.FieldFault.{FieldFault}

abbrev pub comma : ℕ
comma = 44

abbrev pub carriage_return : ℕ
carriage_return = 13

abbrev pub quote : ℕ
quote = 34

-- a field reaches to the next comma, carriage return or the end of the text, within quotes too; a line feed is part of it
abbrev pub in_field : ℕ → Bool
in_field b = not (b == comma || b == carriage_return)

abbrev pub field_length : List ℕ → ℕ
field_length bs = prefix_len in_field bs

-- the bytes of the field that bs begins with
abbrev pub field_bytes : List ℕ → List ℕ
field_bytes bs = take (field_length bs) bs

-- 0 to 9
abbrev pub is_digit : ℕ → Bool
is_digit b = nat_le 48 b && nat_le b 57

-- the number that is written by digits, where those before them write a
abbrev pub digits_after : ℕ → List ℕ → Option ℕ
digits_after a [] = Some a
digits_after a (b ∷ bs) = cond (is_digit b) (digits_after (10 * a + (b - 48)) bs) None

-- 1 to 7 digits; zeros may lead
abbrev pub plain_number : List ℕ → Option ℕ
plain_number s = cond (nat_le 1 (length s) && nat_le (length s) 7) (digits_after 0 s) None

-- at least two bytes, of which the first and the last are quotes
abbrev pub is_quoted : List ℕ → Bool
is_quoted s = nat_le 2 (length s) && (slice_index s 0 == quote && slice_index s (length s - 1) == quote)

-- what stands between the first and the last byte
abbrev pub between_quotes : List ℕ → List ℕ
between_quotes s = take (length s - 2) (drop 1 s)

-- 1 to 7 digits, bare or within quotes
abbrev pub field_number : List ℕ → Option ℕ
field_number s = cond (is_quoted s) (plain_number (between_quotes s)) (plain_number s)

-- where the field at the place `at` of the text ends
abbrev pub field_end : List ℕ → ℕ → ℕ
field_end text at = at + field_length (drop at text)

-- a field's number, and the place where it ends
pub record Field : Type 0 where
  pub value : ℕ
  pub end : ℕ

-- its value and its end, or the fault that names its record and its number within the record
abbrev pub field_by : ℕ → ℕ → ℕ → Option ℕ → Result Field FieldFault
field_by row k end None = Err (record { row = row; field = k })
field_by row k end (Some v) = Ok (record { value = v; end = end })

-- the field at the place `at`, number k of the record number row
abbrev pub field_at : List ℕ → ℕ → ℕ → ℕ → Result Field FieldFault
field_at text at row k = field_by row k (field_end text at) (field_number (field_bytes (drop at text)))
