-- A table's rows and its list of tasks.
use Rattle.std.proofs.Common.{◌≡◌, ◌≤◌, length, arith}
use Rattle.std.proofs.lemmas.Grind.{common_steps}
use Rattle.bounded.proofs.Held.{length_items, items_few}
use Rattle.tables.specs.Tables.{tasks_of}
use Rattle.tables.specs.declared.table.Table.{Table}
use Rattle.tables.proofs.Multiples.{Positive}

pub tasks_count : (t : Table) → length (tasks_of t) ≡ t.rows.count
tasks_count t = length_items t.rows

pub tasks_few : (t : Table) → length (tasks_of t) ≤ 32
tasks_few t = items_few t.rows

pub positive : (t : Table) → Positive (tasks_of t)
positive t k h = grind (arith, common_steps)
