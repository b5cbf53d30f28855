-- The format of a table text: what is read, and which texts are refused for what.
use Rattle.std.specs.Prelude.{ℕ, zero, suc, cond, List, [], length, take, drop, Some, None, Ok, Err, codes, Option, Result, nat_le, nat_lt}
use Rattle.std.specs.Str.{bytes_eq}
use Rattle.refusals.specs.declared.kinds.RecordFault.{RecordFault}
use Rattle.refusals.specs.declared.kinds.ReadRefusal.{ReadRefusal}
use Rattle.refusals.specs.declared.kinds.ReadRefusal.TheVariants.{TextTooLong, OtherHeader, Record}
use Rattle.tables.specs.declared.task.Task.{Task}
use Rattle.table_text.specs.Separators.{past_end}
use Rattle.table_text.specs.Records.{Progress, progress, next_record}

abbrev pub header : List ℕ
header = codes "C,D,T,P1,P2,S"

-- The text begins with the header, in exactly these letters, and the header's end. This is the place behind both;
-- none where anything else stands there. The header alone is the empty table.
abbrev pub past_header : List ℕ → Option ℕ
past_header text = cond (bytes_eq header (take 13 text)) (past_end 13 (drop 13 text)) None

-- a record's fault is the fault of the text
abbrev pub after_record : Result Progress RecordFault → (Progress → Result (List Task) ReadRefusal) → Result (List Task) ReadRefusal
after_record (Ok p) f = f p
after_record (Err e) f = Err (Record e)

-- Records until the text ends, at most so many. Behind a record's end either the text ends or the next record begins,
-- so a blank line is a record whose first field is empty.
unfoldable pub read_records : ℕ → List ℕ → Progress → Result (List Task) ReadRefusal
read_records zero text p = Ok p.tasks
read_records (suc n) text p =
    cond (nat_le (length text) p.next) (Ok p.tasks)
    (after_record (next_record text p) (read_records n text))

-- 33 records are enough, since each adds a task and no table takes a 33rd: that record is at fault
abbrev pub read_after : List ℕ → Option ℕ → Result (List Task) ReadRefusal
read_after text None = Err OtherHeader
read_after text (Some start) = read_records 33 text (progress [] start)

-- The tasks of a table text, or why it is refused: first for more than 4,096 bytes, then for another header, then for a
-- record.
unfoldable pub read_table : List ℕ → Result (List Task) ReadRefusal
read_table text = cond (nat_lt 4096 (length text)) (Err TextTooLong) (read_after text (past_header text))

-- the answer of a reading
abbrev pub answer_by : Result (List Task) ReadRefusal → Result (Unit {0}) ReadRefusal
answer_by (Ok ts) = Ok tt
answer_by (Err e) = Err e

abbrev pub read_answer : List ℕ → Result (Unit {0}) ReadRefusal
read_answer text = answer_by (read_table text)

-- the tasks of the target after a reading: those of the text, or those from before it where the text is refused
abbrev pub tasks_by : List Task → Result (List Task) ReadRefusal → List Task
tasks_by ts (Ok us) = us
tasks_by ts (Err e) = ts

abbrev pub tasks_after_reading : List Task → List ℕ → List Task
tasks_after_reading ts text = tasks_by ts (read_table text)
