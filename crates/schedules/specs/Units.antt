-- One time unit of a run: the processor serves a job, then time advances.
use Rattle.std.specs.Prelude.{◌≡◌, ℕ, ◌+◌, ◌-◌, ◌<◌, Bool, true, cond, ◌&&◌, ◌≢◌, List, [], ◌∷◌, map, length, get_or, Some, None, Option, MatchOption, ◌==◌, nat_lt, slice_index_or, slice_set}
use Rattle.std.specs.List.{range_with_len}
use Rattle.tables.specs.declared.task.Task.{Task}
use Rattle.tables.specs.Tasks.{nobody}
use Rattle.orderings.specs.Meaning.{Meaning}
use Rattle.schedules.specs.declared.slot.Slot.{Slot}
use Rattle.firsts.specs.declared.job.Job.{Job}
use Rattle.firsts.specs.First.{first_in_order}
use Rattle.firsts.specs.Lowest.{lowest}

-- what a read past the last slot gives: no units
abbrev pub nothing : Slot
nothing = record { age = 0; left = 0 }

-- the slot of task k
abbrev pub at : List Slot → ℕ → Slot
at ss k = slice_index_or ss k nothing

-- a job is ready while units are left
abbrev pub Ready : List Slot → ℕ → Type 0
Ready ss k = 0 < (at ss k).left

-- the ready jobs in the order of their numbers, where the first slot is that of task i
abbrev pub ready_from : ℕ → List Slot → List Job
ready_from i [] = []
ready_from i (s ∷ ss) = cond (nat_lt 0 s.left) (record { task = i; age = s.age } ∷ ready_from (i + 1) ss) (ready_from (i + 1) ss)

abbrev pub under : Meaning → Job → Job → Bool
under m x y = m x.task x.age y.task y.age

-- the ready job that is ahead of all other ready ones
abbrev pub picked : Meaning → List Slot → Option Job
picked m ss = first_in_order (under m) (ready_from 0 ss)

-- it loses one unit; with none ready, the unit is idle
abbrev pub spent : Option Job → List Slot → List Slot
spent None ss = ss
spent (Some j) ss = slice_set ss j.task (record { age = (at ss j.task).age; left = (at ss j.task).left - 1 })

-- the first half of a unit
abbrev pub served : Meaning → List Slot → List Slot
served m ss = spent (picked m ss) ss

-- the task that is served, in words: none where no job is ready, else one that is ready and ahead of every other ready job
abbrev pub AheadOfAllReady : Meaning → List Slot → Option ℕ → Type 0
AheadOfAllReady m ss r =
    MatchOption r ((k : ℕ) → Ready ss k → ⊥)
    (λ i. Ready ss i × ((k : ℕ) → Ready ss k → k ≢ i → m i (at ss i).age k (at ss k).age ≡ true))

-- time advances by one
abbrev pub older : Slot → Slot
older s = record { age = s.age + 1; left = s.left }

-- a job misses at age D with units left
abbrev pub late : Task → Slot → Bool
late t s = s.age == t.d && nat_lt 0 s.left

-- the same in words
abbrev pub Late : List Task → List Slot → ℕ → Type 0
Late ts ss k = ((at ss k).age ≡ (get_or ts k nobody).d) × Ready ss k

-- none where no task is late, else a late task below which none is
abbrev pub LowestLate : List Task → List Slot → Option ℕ → Type 0
LowestLate ts ss r =
    MatchOption r ((k : ℕ) → Late ts ss k → ⊥)
    (λ i. Late ts ss i × ((k : ℕ) → k < i → Late ts ss k → ⊥))

-- the lowest task that misses
abbrev pub missed : List Task → List Slot → Option ℕ
missed ts ss = lowest (λ k. late (slice_index_or ts k nobody) (at ss k)) 0 (length ss)

-- the units that a released job may use
abbrev pub budget : Task → ℕ
budget t = t.c

abbrev pub released : Task → Slot
released t = record { age = 0; left = budget t }

-- at age T the next job is released
abbrev pub renew : Task → Slot → Slot
renew t s = cond (s.age == t.t) (released t) s

abbrev pub renewed : List Task → List Slot → List Slot
renewed ts ss = map (λ k. renew (slice_index_or ts k nobody) (at ss k)) (range_with_len 0 (length ss))
