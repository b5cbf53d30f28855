-- Equality of tasks and of tables, as tests.
use Rattle.std.specs.Prelude.{Bool, nat_eq}
use Rattle.std.specs.Cmp.Lexicographic.{pointwise}
use Rattle.std.specs.Ordering.{on, eq_of_both}
use Rattle.tables.specs.declared.task.Task.{Task}
use Rattle.tables.specs.declared.table.Table.{Table}
use Rattle.tables.specs.Tables.{tasks_of}

-- all six numbers are equal
abbrev pub same_numbers : Task → Task → Bool
same_numbers =
    eq_of_both (on (λ v. v.c) nat_eq)
    (eq_of_both (on (λ v. v.d) nat_eq)
    (eq_of_both (on (λ v. v.t) nat_eq)
    (eq_of_both (on (λ v. v.p1) nat_eq) (eq_of_both (on (λ v. v.p2) nat_eq) (on (λ v. v.s) nat_eq)))))

-- the lists of tasks are equally long, and tasks at the same place are equal
abbrev pub same_tasks : Table → Table → Bool
same_tasks = on tasks_of (pointwise same_numbers)
