-- The full schedule, in which every job uses its whole budget, and the verdict on it.
use Rattle.std.specs.Prelude.{◌≡◌, ℕ, zero, suc, ◌<◌, List, Some, None, Option}
use Rattle.tables.specs.declared.task.Task.{Task}
use Rattle.tables.specs.Hyperperiod.{hyperperiod_of}
use Rattle.orderings.specs.Meaning.{Meaning}
use Rattle.schedules.specs.declared.verdict.Verdict.{Verdict}
use Rattle.schedules.specs.declared.verdict.Verdict.TheVariants.{Holds, Misses}
use Rattle.schedules.specs.Runs.{State, fresh, ticked, tick_miss}

-- the state at instant n: what n ticks alone do to a new run
abbrev pub full : List Task → Meaning → ℕ → State
full ts m zero = fresh ts
full ts m (suc n) = ticked ts m (full ts m n)

-- the task that the n-th tick of the full schedule names as missed
abbrev pub full_miss : List Task → Meaning → ℕ → Option ℕ
full_miss ts m zero = None
full_miss ts m (suc n) = tick_miss ts m (full ts m n)

-- no tick of the endless full schedule misses
abbrev pub NeverMisses : List Task → Meaning → Type 0
NeverMisses ts m = (n : ℕ) → full_miss ts m n ≡ None

-- the first tick that misses is the n-th, and the task that it names is i
abbrev pub FirstMiss : List Task → Meaning → ℕ → ℕ → Type 0
FirstMiss ts m i n = (full_miss ts m n ≡ Some i) × ((k : ℕ) → k < n → full_miss ts m k ≡ None)

-- what a verdict says of the endless full schedule
abbrev pub SaysOfEndless : List Task → Meaning → Verdict → Type 0
SaysOfEndless ts m Holds = NeverMisses ts m
SaysOfEndless ts m (Misses x) = FirstMiss ts m x.task x.instant

-- the first miss within so many ticks after instant n, by what the n-th tick missed and the state after it
abbrev pub judged : List Task → Meaning → Option ℕ → ℕ → ℕ → State → Verdict
judged ts m (Some i) fuel n st = Misses (record { task = i; instant = n })
judged ts m None zero n st = Holds
judged ts m None (suc fuel) n st = judged ts m (tick_miss ts m st) fuel (suc n) (ticked ts m st)

-- one hyperperiod is looked at
abbrev pub verdict_of : List Task → Meaning → Verdict
verdict_of ts m = judged ts m None (hyperperiod_of ts) 0 (fresh ts)
