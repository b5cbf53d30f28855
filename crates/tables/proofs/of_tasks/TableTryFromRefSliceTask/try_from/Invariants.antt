use Rattle.std.proofs.Common.{◌≡◌, [], drop, take}
use Rattle.tables.specs.Made.{all_added}
use Rattle.tables.specs.Tables.{tasks_of}
use Rattle.tables.proofs.of_tasks.TableTryFromRefSliceTask.try_from.Given as goal

abbrev pub invariant-loop-x : goal.invariant-loop-x
invariant-loop-x l = record {
  so_far : tasks_of l.table ≡ take l.x-index l.tasks;
  the_rest : all_added [] l.tasks ≡ all_added (tasks_of l.table) (drop l.x-index l.tasks);
}
