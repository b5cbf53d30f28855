-- The answer to a table text under an ordering that has a name.
use Rattle.std.specs.Prelude.{◌≡◌, ℕ, List, Ok, Err, Result}
use Rattle.refusals.specs.declared.kinds.ReadRefusal.{ReadRefusal}
use Rattle.tables.specs.declared.task.Task.{Task}
use Rattle.tables.specs.Hyperperiod.{hyperperiod_of, LeastCommonMultiple}
use Rattle.table_text.specs.Reading.{read_table}
use Rattle.schedules.specs.Schedule.{verdict_of, SaysOfEndless}
use Rattle.answers.specs.Answers.{Answer, answer_by_verdict}
use Rattle.desk.specs.declared.naming.Named.{Named}
use Rattle.desk.specs.Meanings.{named_meaning}

abbrev pub answer_by_reading : Named → Result (List Task) ReadRefusal → Answer
answer_by_reading n (Err e) = Err e
answer_by_reading n (Ok ts) = answer_by_verdict (hyperperiod_of ts) (verdict_of ts (named_meaning ts n))

-- the text is read, and its table judged under the ordering
abbrev pub answer_under : Named → List ℕ → Answer
answer_under n text = answer_by_reading n (read_table text)

-- what an answer says of the text's table, its hyperperiod and its endless full schedule under the ordering
abbrev pub TrueUnder : Named → List ℕ → Answer → Type 0
TrueUnder n text (Ok j) = (ts : List Task) × (read_table text ≡ Ok ts) × SaysOfEndless ts (named_meaning ts n) j.verdict × LeastCommonMultiple ts j.hyperperiod
TrueUnder n text (Err e) = read_table text ≡ Err e
