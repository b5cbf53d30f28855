use Rattle.std.proofs.Common.{◌≡◌}
use Rattle.tables.specs.Tables.{tasks_of}
use Rattle.orderings.specs.BackgroundList.{numbers_of}
use Rattle.viability.specs.TaskSets.{members_of}
use Rattle.viability.proofs.Taking.{Taking}
use Rattle.viability.proofs.own_list.own_background_list.Given as goal

abbrev pub invariant-loop : goal.invariant-loop
invariant-loop l =
    (l.left.tasks.now ≡ tasks_of l.table)
    × Taking (tasks_of l.table) (members_of l.left) (numbers_of l.list) l.counter
