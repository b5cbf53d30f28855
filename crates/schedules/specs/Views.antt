-- What a run stands for: its table, its ordering and its state.
use Rattle.std.specs.Prelude.{List}
use Rattle.tables.specs.declared.task.Task.{Task}
use Rattle.tables.specs.declared.table.Table.{Table}
use Rattle.tables.specs.Tables.{tasks_of}
use Rattle.schedules.specs.declared.run.Run.{Run}
use Rattle.schedules.specs.Runs.{State, state_of}

abbrev pub table_of_run : {O : Type 0} → Run O → Table
table_of_run r = r.table.now

abbrev pub tasks_of_run : {O : Type 0} → Run O → List Task
tasks_of_run r = tasks_of (table_of_run r)

abbrev pub ordering_of_run : {O : Type 0} → Run O → O
ordering_of_run r = r.ordering.now

abbrev pub state_of_run : {O : Type 0} → Run O → State
state_of_run r = state_of (tasks_of_run r) r.progress
