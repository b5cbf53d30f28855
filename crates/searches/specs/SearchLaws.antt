-- What is true of every search, after any number of rounds on a new one.
use Rattle.std.specs.Prelude.{◌≡◌, ℕ, ◌+◌, ◌<◌, ◌≤◌, ◌≢◌, List, length, get_or, sum_by, slice_index_or}
use Rattle.tables.specs.declared.task.Task.{Task}
use Rattle.tables.specs.Tasks.{nobody}
use Rattle.tables.specs.Setting.{with_promotion}
use Rattle.orderings.specs.Meaning.{Meaning}
use Rattle.orderings.specs.Promotion.{promotion}
use Rattle.schedules.specs.declared.verdict.Miss.{Miss}
use Rattle.schedules.specs.declared.verdict.Verdict.TheVariants.{Holds, Misses}
use Rattle.schedules.specs.Schedule.{verdict_of}
use Rattle.searches.specs.declared.search.Stage.{Stage}
use Rattle.searches.specs.declared.search.Stage.TheVariants.{Open, Held, Stuck}
use Rattle.searches.specs.Searches.{begun, rounds}

-- a new search after n rounds: its tasks, and how far it is
abbrev pub tasks_after : List Task → Meaning → ℕ → List Task
tasks_after ts lower n = (rounds lower n (begun ts)).tasks

abbrev pub stage_after : List Task → Meaning → ℕ → Stage
stage_after ts lower n = (rounds lower n (begun ts)).stage

-- more rounds raise no promotion time
abbrev pub PromotionsNeverRise : List Task → Meaning → Type 0
PromotionsNeverRise ts lower = (n k i : ℕ) → (get_or (tasks_after ts lower (n + k)) i nobody).s ≤ (get_or (tasks_after ts lower n) i nobody).s

-- as many tasks as in the table, each of them the table's but for S, and S within 0 to D
abbrev pub OnlyPromotionsChange : List Task → Meaning → Type 0
OnlyPromotionsChange ts lower =
    (n : ℕ)
    → (length (tasks_after ts lower n) ≡ length ts)
    × ((i : ℕ) → slice_index_or (tasks_after ts lower n) i nobody ≡ with_promotion (slice_index_or ts i nobody) (get_or (tasks_after ts lower n) i nobody).s)
    × ((i : ℕ) → (get_or (tasks_after ts lower n) i nobody).s ≤ (get_or ts i nobody).d)

-- held: with the promotion times of the search, the table holds under the promotion layer
abbrev pub HeldIsHolding : List Task → Meaning → Type 0
HeldIsHolding ts lower =
    (n : ℕ) → stage_after ts lower n ≡ Held
    → verdict_of (tasks_after ts lower n) (promotion (tasks_after ts lower n) lower) ≡ Holds

-- stuck: with the promotion times of the search, the table comes to this miss, and the S of the task that misses is 0. It
-- says nothing of other promotion times.
abbrev pub StuckIsMissingAtZero : List Task → Meaning → Type 0
StuckIsMissingAtZero ts lower =
    (n : ℕ) (x : Miss) → stage_after ts lower n ≡ Stuck x
    → (verdict_of (tasks_after ts lower n) (promotion (tasks_after ts lower n) lower) ≡ Misses x)
    × ((get_or (tasks_after ts lower n) x.task nobody).s ≡ 0)

-- after more rounds than the sum of all D, a search is open no more
abbrev pub EndsWithinTheSumOfDeadlines : List Task → Meaning → Type 0
EndsWithinTheSumOfDeadlines ts lower = (n : ℕ) → sum_by (λ x. x.d) ts < n → stage_after ts lower n ≢ Open
