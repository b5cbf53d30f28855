use Rattle.std.proofs.Common.{◌≡◌, [], take, fold}
use Rattle.tables.specs.Adding.{tasks_after_adding}
use Rattle.tables.specs.Tables.{tasks_of}
use Rattle.examples.proofs.small_tables.table_of.Given as goal

abbrev pub invariant-loop-x : goal.invariant-loop-x
invariant-loop-x l = tasks_of l.table ≡ fold tasks_after_adding [] (take l.x-index l.tasks)
