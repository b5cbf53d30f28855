-- The two-phase ordering.
use Rattle.std.specs.Prelude.{ℕ, cond, List, ℤ, pos, Option, nat_lt}
use Rattle.tables.specs.declared.task.Task.{Task}
use Rattle.orderings.specs.Meaning.{Meaning}
use Rattle.orderings.specs.Keys.{by_key, by_number, key_of}

-- the priority number of a task's job: P1 below age S, P2 from age S on
abbrev pub phase_priority : Task → ℕ → ℕ
phase_priority t a = cond (nat_lt a t.s) t.p1 t.p2

-- what a job counts with
abbrev pub phase_value : Task → ℕ → ℤ
phase_value t a = pos (phase_priority t a)

-- a number that is not in the table has no key
abbrev pub phase_key : List Task → ℕ → ℕ → Option ℤ
phase_key = key_of phase_value

-- the smaller priority number is ahead, then the lower task number; numbers not in the table stand behind, in their order
abbrev pub two_phase : List Task → Meaning
two_phase ts = by_key (phase_key ts) by_number
