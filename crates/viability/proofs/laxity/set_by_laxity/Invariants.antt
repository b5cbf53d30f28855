use Rattle.std.proofs.Common.{◌≡◌, ℕ, ◌<◌, ◌≤◌, not, length, get_or, is_some, None}
use Rattle.tables.specs.Tasks.{nobody}
use Rattle.tables.specs.Tables.{tasks_of}
use Rattle.firsts.specs.Lowest.{lowest}
use Rattle.viability.specs.Laxity.{lax_time, with_time}
use Rattle.viability.proofs.laxity.set_by_laxity.Given as goal

-- the tasks below i have times, and these are set in the copy; the others are there as they were
abbrev pub invariant-loop-i : goal.invariant-loop-i
invariant-loop-i l =
    (lowest (λ k. not (is_some (lax_time (tasks_of l.table) k))) 0 l.i ≡ None)
    × (length (tasks_of l.after) ≡ length (tasks_of l.table))
    × ((k : ℕ) → k < l.i → get_or (tasks_of l.after) k nobody ≡ with_time (get_or (tasks_of l.table) k nobody) (lax_time (tasks_of l.table) k))
    × ((k : ℕ) → l.i ≤ k → get_or (tasks_of l.after) k nobody ≡ get_or (tasks_of l.table) k nobody)
