-- What the commands print. Every record is ended by carriage return and line feed.
use Rattle.std.specs.Prelude.{ℕ, List, ◌∷◌, ◌++◌, Some, None, Ok, Err, codes, decimal, Option, Result}
use Rattle.std.specs.List.{flat_map}
use Rattle.std.specs.Option.{option_map}
use Rattle.refusals.specs.declared.kinds.ReadRefusal.{ReadRefusal}
use Rattle.refusals.specs.declared.kinds.LaxityRefusal.{LaxityRefusal}
use Rattle.refusals.specs.declared.kinds.Refusal.{Refusal}
use Rattle.refusals.specs.declared.kinds.Refusal.TheVariants.{Reading, Laxity}
use Rattle.refusals.specs.Numbers.{number_of, place_of, task_of}
use Rattle.tables.specs.declared.task.Task.{Task}
use Rattle.table_text.specs.Reading.{read_table}
use Rattle.table_text.specs.Written.{table_text}
use Rattle.viability.specs.OwnList.{own_list}
use Rattle.viability.specs.Laxity.{laxity_answer, tasks_after_laxity}
use Rattle.searches.specs.declared.search.Round.{Round}
use Rattle.searches.specs.declared.search.Round.TheVariants.{Lowered, Held, Stuck}
use Rattle.answers.specs.Answers.{Answer}
use Rattle.answers.specs.Texts.{line_end, column, columns_of, columns_text}
use Rattle.desk.specs.declared.naming.Named.{Named}
use Rattle.desk.specs.Words.{named_text}
use Rattle.desk.specs.Verdicts.{answer_under}

abbrev pub verdict_header : List ℕ
verdict_header = codes "ordering,answer,task,instant,hyperperiod,refusal,record,field" ++ line_end

-- the ordering's name, and the seven fields of the answer
unfoldable pub verdict_record : Named → Answer → List ℕ
verdict_record n a = named_text n ++ (44 ∷ columns_text (columns_of a))

-- `verdict`: the header's record and that of the answer to the text
unfoldable pub verdict_text : Named → List ℕ → List ℕ
verdict_text n text = verdict_header ++ verdict_record n (answer_under n text)

abbrev pub refused_header : List ℕ
refused_header = codes "answer,task,refusal,record,field" ++ line_end

abbrev pub row_of : Refusal → Option ℕ
row_of e = option_map (λ p. p.row) (place_of e)

abbrev pub field_of : Refusal → Option ℕ
field_of e = option_map (λ p. p.field) (place_of e)

-- what is refused: the task that the refusal names, its number and its place in the text; what does not apply is left empty
unfoldable pub refused_record : Refusal → List ℕ
refused_record e =
    codes "refused" ++ (column (task_of e) ++ (column (Some (number_of e)) ++ (column (row_of e) ++ (column (field_of e) ++ line_end))))

unfoldable pub refused_text : Refusal → List ℕ
refused_text e = refused_header ++ refused_record e

abbrev pub numbers_header : List ℕ
numbers_header = codes "task" ++ line_end

abbrev pub number_record : ℕ → List ℕ
number_record n = decimal n ++ line_end

-- task numbers, a record for each
unfoldable pub numbers_text : List ℕ → List ℕ
numbers_text ns = numbers_header ++ flat_map number_record ns

abbrev pub rounds_header : List ℕ
rounds_header = codes "round,answer,task,instant" ++ line_end

abbrev pub round_word : Round → List ℕ
round_word (Lowered i) = codes ",lowered"
round_word Held = codes ",held"
round_word (Stuck x) = codes ",stuck"

abbrev pub round_task : Round → Option ℕ
round_task (Lowered i) = Some i
round_task Held = None
round_task (Stuck x) = Some x.task

abbrev pub round_instant : Round → Option ℕ
round_instant (Lowered i) = None
round_instant Held = None
round_instant (Stuck x) = Some x.instant

-- `search` prints a record for each round: its number from 1 on, what it answers, and the task and the instant where there
-- are any
unfoldable pub round_record : ℕ → Round → List ℕ
round_record n r = decimal n ++ (round_word r ++ (column (round_task r) ++ (column (round_instant r) ++ line_end)))

abbrev pub background_by : Result (List Task) ReadRefusal → List ℕ
background_by (Err e) = refused_text (Reading e)
background_by (Ok ts) = numbers_text (own_list ts)

-- `background`: the background list of the text's table
abbrev pub background_text : List ℕ → List ℕ
background_text text = background_by (read_table text)

abbrev pub laxity_by_answer : List Task → Result (Unit {0}) LaxityRefusal → List ℕ
laxity_by_answer ts (Err e) = refused_text (Laxity e)
laxity_by_answer ts (Ok _) = table_text (tasks_after_laxity ts)

abbrev pub laxity_by : Result (List Task) ReadRefusal → List ℕ
laxity_by (Err e) = refused_text (Reading e)
laxity_by (Ok ts) = laxity_by_answer ts (laxity_answer ts)

-- `laxity`: the text's table with promotion times by laxity
abbrev pub laxity_text : List ℕ → List ℕ
laxity_text text = laxity_by (read_table text)
