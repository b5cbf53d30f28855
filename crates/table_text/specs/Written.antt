-- The text that a table is written as: nothing quoted, no leading zeros, every record ended.
use Rattle.std.specs.Prelude.{◌≡◌, ℕ, cond, List, [], ◌∷◌, ◌++◌, length, drop, Ok, Err, decimal, Result, nat_le}
use Rattle.std.specs.List.{flat_map}
use Rattle.refusals.specs.declared.kinds.WriteRefusal.{WriteRefusal}
use Rattle.refusals.specs.declared.kinds.WriteRefusal.TheVariants.{BufferTooShort}
use Rattle.tables.specs.declared.task.Task.{Task}
use Rattle.table_text.specs.Fields.{comma, carriage_return}
use Rattle.table_text.specs.Separators.{line_feed}
use Rattle.table_text.specs.Reading.{header, read_table}

-- a number in decimal digits, and the byte behind it
unfoldable pub field_text : ℕ → ℕ → List ℕ
field_text v b = decimal v ++ (b ∷ [])

-- C, D, T, P1, P2 and S of a task, ended
unfoldable pub record_text : Task → List ℕ
record_text x =
    field_text x.c comma ++ (field_text x.d comma ++ (field_text x.t comma
    ++ (field_text x.p1 comma ++ (field_text x.p2 comma ++ (field_text x.s carriage_return ++ (line_feed ∷ []))))))

-- the header's record, and one for each task
abbrev pub table_text : List Task → List ℕ
table_text ts = (header ++ (carriage_return ∷ line_feed ∷ [])) ++ flat_map record_text ts

-- a writing answers the text's length, or that the buffer is too short for the text
abbrev pub write_answer : List ℕ → List ℕ → Result ℕ WriteRefusal
write_answer text buffer = cond (nat_le (length text) (length buffer)) (Ok (length text)) (Err BufferTooShort)

-- the text stands at the buffer's front and what is behind it stays; a buffer that is too short is not touched
abbrev pub buffer_after : List ℕ → List ℕ → List ℕ
buffer_after text buffer = cond (nat_le (length text) (length buffer)) (text ++ drop (length text) buffer) buffer

-- the text reads as the tasks that it was written from
abbrev pub ReadsBack : List Task → Type 0
ReadsBack ts = read_table (table_text ts) ≡ Ok ts
