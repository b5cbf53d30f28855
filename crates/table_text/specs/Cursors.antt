-- What the functions that move a cursor answer, told by places of the text.
use Rattle.std.specs.Prelude.{ℕ, Bool, cond, Some, None, Option, Result, List}
use Rattle.std.specs.Option.{option_map}
use Rattle.std.specs.Result.{result_map_both}
use Rattle.refusals.specs.declared.kinds.ReadRefusal.{ReadRefusal}
use Rattle.tables.specs.declared.task.Task.{Task}
use Rattle.tables.specs.declared.table.Table.{Table}
use Rattle.tables.specs.Tables.{tasks_of}
use Rattle.table_text.specs.declared.cursor.Cursor.{Cursor}
use Rattle.table_text.specs.Fields.{Field}
use Rattle.table_text.specs.Records.{TaskRecord}

-- f of what is read, or the fault
abbrev pub result_map : {A B E : Type 0} → (A → B) → Result A E → Result B E
result_map f r = result_map_both f (λ e. e) r

-- the place that is come to, where a test is passed
abbrev pub place_if : Bool → ℕ → Option ℕ
place_if passed at = cond passed (Some at) None

abbrev pub place_of : Option Cursor → Option ℕ
place_of c = option_map (λ x. x.at) c

-- a number that is read, and the place that is come to
abbrev pub read_to : {E : Type 0} → ℕ → Result ℕ E → Result Field E
read_to end r = result_map (λ v. record { value = v; end = end }) r

-- a task that is read, and the place that is come to
abbrev pub task_to : {E : Type 0} → ℕ → Result Task E → Result TaskRecord E
task_to end r = result_map (λ x. record { task = x; end = end }) r

-- how far a reading has come
abbrev pub progress_to : {P E : Type 0} → P → Result (Unit {0}) E → Result P E
progress_to p r = result_map (λ _. p) r

-- the tasks of a table that is read
abbrev pub tasks_read : Result Table ReadRefusal → Result (List Task) ReadRefusal
tasks_read r = result_map tasks_of r
