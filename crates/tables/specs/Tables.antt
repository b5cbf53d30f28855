-- A table stands for the list of its tasks; all promises speak of that list.
use Rattle.std.specs.Prelude.{ℕ, cond, List, length, Some, None, Option, nat_lt, slice_index_or}
use Rattle.tables.specs.declared.task.Task.{Task}
use Rattle.tables.specs.declared.table.Table.{Table}
use Rattle.tables.specs.Tasks.{nobody, listed}

abbrev pub tasks_of : Table → List Task
tasks_of t = listed t.rows

-- the task of a number, if there is one
abbrev pub task_at : List Task → ℕ → Option Task
task_at ts i = cond (nat_lt i (length ts)) (Some (slice_index_or ts i nobody)) None
