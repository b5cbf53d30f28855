use Rattle.std.proofs.Common.{◌≡◌, ◌*◌, ◌≤◌, take, sum_by}
use Rattle.tables.specs.Tables.{tasks_of}
use Rattle.desk.proofs.rounds.enough_rounds.Given as goal

abbrev pub invariant-loop-task : goal.invariant-loop-task
invariant-loop-task l =
    (l.sum ≡ sum_by (λ x. x.d) (take l.task-index (tasks_of l.table)))
    × (l.sum ≤ l.task-index * 1000000)
