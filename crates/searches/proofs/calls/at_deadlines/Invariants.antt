use Rattle.std.proofs.Common.{◌≡◌}
use Rattle.tables.specs.Tables.{tasks_of}
use Rattle.searches.proofs.Moved.{half_moved}
use Rattle.searches.proofs.calls.at_deadlines.Given as goal

-- the tasks before i have their S at their D, the others are the table's
abbrev pub invariant-loop-i : goal.invariant-loop-i
invariant-loop-i l = tasks_of l.moved ≡ half_moved (tasks_of l.table) l.i
