-- The fixed-priority ordering.
use Rattle.std.specs.Prelude.{ℕ, List, ℤ, pos, Option}
use Rattle.tables.specs.declared.task.Task.{Task}
use Rattle.orderings.specs.Meaning.{Meaning}
use Rattle.orderings.specs.Keys.{by_key, by_number, key_of}

-- what a job counts with: P1 at every age
abbrev pub fixed_value : Task → ℕ → ℤ
fixed_value t a = pos t.p1

-- the key of a job, the same at every age as at age 0; a number that is not in the table has none
abbrev pub fixed_key : List Task → ℕ → Option ℤ
fixed_key ts i = key_of fixed_value ts i 0

-- the smaller P1 is ahead, then the lower task number; numbers not in the table stand behind, in their order
abbrev pub fixed : List Task → Meaning
fixed ts = by_key (key_of fixed_value ts) by_number
