-- The answer to a table text.
use Rattle.std.specs.Prelude.{◌≡◌, ℕ, List, Ok, Err, Result}
use Rattle.refusals.specs.declared.kinds.ReadRefusal.{ReadRefusal}
use Rattle.tables.specs.declared.task.Task.{Task}
use Rattle.tables.specs.Hyperperiod.{hyperperiod_of, LeastCommonMultiple}
use Rattle.table_text.specs.Reading.{read_table}
use Rattle.orderings.specs.TwoPhase.{two_phase}
use Rattle.schedules.specs.declared.verdict.Verdict.{Verdict}
use Rattle.schedules.specs.Schedule.{verdict_of, SaysOfEndless}
use Rattle.answers.specs.declared.answer.Judged.{Judged}

-- what a table text is answered: what is told of its table, or why the text is not a table's
abbrev pub Answer : Type 0
Answer = Result Judged ReadRefusal

abbrev pub answer_by_verdict : ℕ → Verdict → Answer
answer_by_verdict h v = Ok (record { verdict = v; hyperperiod = h })

abbrev pub answer_by_reading : Result (List Task) ReadRefusal → Answer
answer_by_reading (Err e) = Err e
answer_by_reading (Ok ts) = answer_by_verdict (hyperperiod_of ts) (verdict_of ts (two_phase ts))

-- the text is read, and its table judged under the two-phase ordering
abbrev pub answer_to : List ℕ → Answer
answer_to text = answer_by_reading (read_table text)

-- what an answer says of the text's table, its hyperperiod and its endless full schedule
abbrev pub TrueOf : List ℕ → Answer → Type 0
TrueOf text (Ok j) = (ts : List Task) × (read_table text ≡ Ok ts) × SaysOfEndless ts (two_phase ts) j.verdict × LeastCommonMultiple ts j.hyperperiod
TrueOf text (Err e) = read_table text ≡ Err e
