-- The background list of a table: the tasks that can be served behind all others.
use Rattle.std.specs.Prelude.{ℕ, zero, suc, Bool, true, false, ◌&&◌, ◌||◌, List, [], ◌∷◌, map, length, Some, None, filter, Option, ◌==◌, nat_lt, slice_index_or, slice_set}
use Rattle.std.specs.List.{range_with_len}
use Rattle.tables.specs.declared.task.Task.{Task}
use Rattle.tables.specs.Tasks.{nobody}
use Rattle.firsts.specs.First.{first_in_order}
use Rattle.viability.specs.declared.candidate.Candidate.{Candidate}
use Rattle.viability.specs.Viable.{is_in, viable}

-- the longer deadline precedes, then the greater task number
abbrev pub later : Candidate → Candidate → Bool
later x y = nat_lt y.deadline x.deadline || (x.deadline == y.deadline && nat_lt y.task x.task)

abbrev pub candidate : List Task → ℕ → Candidate
candidate ts k = record { deadline = (slice_index_or ts k nobody).d; task = k }

-- the tasks of a set that are viable within it, in the order of their numbers
abbrev pub candidates : List Task → List Bool → List Candidate
candidates ts members = filter (λ x. is_in members x.task && viable ts members x.task) (map (candidate ts) (range_with_len 0 (length ts)))

-- the one that is taken next
abbrev pub next_taken : List Task → List Bool → Option Candidate
next_taken ts members = first_in_order later (candidates ts members)

abbrev pub without : List Bool → ℕ → List Bool
without members k = slice_set members k false

-- what is taken from a set, given the one that is taken next: each leaves the set and is written behind those before it;
-- at most n are taken
abbrev pub taken_from : List Task → List Bool → Option Candidate → ℕ → List ℕ
taken_from ts members None n = []
taken_from ts members (Some x) zero = []
taken_from ts members (Some x) (suc n) = x.task ∷ taken_from ts (without members x.task) (next_taken ts (without members x.task)) n

-- the set of all tasks
abbrev pub everyone : List Task → List Bool
everyone ts = map (λ _. true) ts

-- from the set of all tasks, while some are viable within what is left of it
abbrev pub own_list : List Task → List ℕ
own_list ts = taken_from ts (everyone ts) (next_taken ts (everyone ts)) (length ts)
