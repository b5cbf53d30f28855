-- Equality of tasks and of tables, as tests, decides whether the tasks are the same.
use Rattle.std.proofs.Common.{◌≡◌, Decides, refl, arith}
use Rattle.std.proofs.lemmas.Grind.{common_steps}
use Rattle.std.proofs.lemmas.Slice.Eq.{slice_eq-Decides}
use Rattle.tables.specs.Equality.{same_numbers, same_tasks}
use Rattle.tables.specs.Tables.{tasks_of}
use Rattle.tables.specs.declared.table.Table.{Table}
use Rattle.tables.specs.declared.task.Task.{Task}

pub same_numbers_decides : (x y : Task) → Decides (same_numbers x y) (x ≡ y)
same_numbers_decides x y = grind (arith, common_steps)

pub same_tasks_decides : (x y : Table) → Decides (same_tasks x y) (tasks_of x ≡ tasks_of y)
same_tasks_decides x y = slice_eq-Decides same_numbers_decides (tasks_of x) (tasks_of y) (same_tasks x y) refl
