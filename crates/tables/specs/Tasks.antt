-- Tasks, and the bounds that every task of a table keeps.
use Rattle.std.specs.Prelude.{ℕ, ◌<◌, ◌≤◌, List, length, slice_index_or}
use Rattle.tables.specs.declared.task.Task.{Task}
use Rattle.bounded.specs.declared.list.Bounded.{Bounded}
use Rattle.bounded.specs.Lists.{items_of}

-- what a read past the end of a list of tasks gives
abbrev pub nobody : Task
nobody = record { c = 0; d = 0; t = 0; p1 = 0; p2 = 0; s = 0 }

-- the tasks in use, in the order of their numbers
abbrev pub listed : Bounded Task 32 → List Task
listed r = items_of r

-- P of each task of a list
abbrev pub Each : (Task → Type 0) → List Task → Type 0
Each P ts = (k : ℕ) → k < length ts → P (slice_index_or ts k nobody)

-- budget, deadline and period
abbrev pub Timed : Task → Type 0
Timed x = (1 ≤ x.c) × (x.c ≤ x.d) × (x.d ≤ x.t) × (x.t ≤ 1000000)

-- the priority numbers and the promotion time
abbrev pub Ranked : Task → Type 0
Ranked x = (x.p1 ≤ 63) × (x.p2 ≤ 63) × (x.s ≤ x.d)
