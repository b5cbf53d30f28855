use Rattle.std.proofs.Common.{◌≡◌, ℕ, ◌-◌, ◌≤◌, None}
use Rattle.tables.specs.Tables.{tasks_of}
use Rattle.schedules.specs.Views.{table_of_run, ordering_of_run, state_of_run}
use Rattle.schedules.specs.Schedule.{full, full_miss, judged, verdict_of}
use Rattle.schedules.proofs.verdict.Verdict.of.Given as goal

-- the run is at instant n of the full schedule, no tick has missed, and what is left to judge gives the verdict
abbrev pub invariant-loop-n : goal.invariant-loop-n
invariant-loop-n g l =
    (table_of_run l.run ≡ l.table)
    × (ordering_of_run l.run ≡ l.ordering)
    × (state_of_run l.run ≡ full (tasks_of l.table) (g.O.Ordering.ahead l.ordering) l.n)
    × ((k : ℕ) → k ≤ l.n → full_miss (tasks_of l.table) (g.O.Ordering.ahead l.ordering) k ≡ None)
    × (judged (tasks_of l.table) (g.O.Ordering.ahead l.ordering) None (l.n-end - l.n) l.n (full (tasks_of l.table) (g.O.Ordering.ahead l.ordering) l.n) ≡ verdict_of (tasks_of l.table) (g.O.Ordering.ahead l.ordering))
