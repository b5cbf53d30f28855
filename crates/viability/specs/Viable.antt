-- Viability: whether a task still meets its deadline behind all other tasks of a set.
use Rattle.std.specs.Prelude.{ℕ, ◌+◌, ◌-◌, ◌*◌, ◌/◌, Bool, false, cond, not, ◌&&◌, List, length, get_or, is_some, Option, ◌==◌, nat_le, slice_index_or}
use Rattle.std.specs.List.{sum_by}
use Rattle.tables.specs.declared.task.Task.{Task}
use Rattle.tables.specs.Tasks.{nobody}
use Rattle.firsts.specs.Lowest.{lowest}
use Rattle.viability.specs.Totals.{total}

-- a set of tasks says of each task number whether it is in the set
abbrev pub is_in : List Bool → ℕ → Bool
is_in members k = slice_index_or members k false

-- n divided by d, rounded up
abbrev pub rounded_up : ℕ → ℕ → ℕ
rounded_up n d = (n + (d - 1)) / d

-- what a task may ask for in t units: its budget for each job that is released in them
abbrev pub asked : Task → ℕ → ℕ
asked x t = x.c * rounded_up t x.t

-- what tasks may ask for together in t units
abbrev pub asked_together : List Task → ℕ → ℕ
asked_together xs t = sum_by (λ x. asked x t) xs

-- what the tasks of a set other than i may ask for in t units
abbrev pub asked_by_others : List Task → List Bool → ℕ → ℕ → ℕ
asked_by_others ts members i t = total (λ j. cond (is_in members j && not (j == i)) (asked (slice_index_or ts j nobody) t) 0) (length ts)

-- with one budget of task i
abbrev pub load : List Task → List Bool → ℕ → ℕ → ℕ
load ts members i t = (get_or ts i nobody).c + asked_by_others ts members i t

-- the response time: the smallest t from 1 to the deadline of task i in which that load can be worked off
abbrev pub response : List Task → List Bool → ℕ → Option ℕ
response ts members i = lowest (λ t. nat_le (load ts members i t) t) 1 (get_or ts i nobody).d

-- a task is viable within a set if there is such a t
abbrev pub viable : List Task → List Bool → ℕ → Bool
viable ts members i = is_some (response ts members i)
