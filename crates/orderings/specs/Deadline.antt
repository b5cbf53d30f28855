-- The deadline ordering.
use Rattle.std.specs.Prelude.{ℕ, List, ℤ, pos, ◌-ℤ◌, Option}
use Rattle.tables.specs.declared.task.Task.{Task}
use Rattle.orderings.specs.Meaning.{Meaning}
use Rattle.orderings.specs.Keys.{by_key, by_number, key_of}

-- what a job counts with: D - a, the units up to the deadline, zero at it and negative past it
abbrev pub deadline_value : Task → ℕ → ℤ
deadline_value t a = pos t.d -ℤ pos a

-- a number that is not in the table has no key
abbrev pub deadline_key : List Task → ℕ → ℕ → Option ℤ
deadline_key = key_of deadline_value

-- the smaller difference is ahead, then the lower task number; numbers not in the table stand behind, in their order
abbrev pub deadline : List Task → Meaning
deadline ts = by_key (deadline_key ts) by_number
