-- A search for promotion times: the S of the first task that misses falls by one unit in each round.
use Rattle.std.specs.Prelude.{ℕ, zero, suc, ◌-◌, cond, List, map, length, get_or, Ok, Err, Result, nat_lt, slice_index_or, slice_set}
use Rattle.refusals.specs.declared.kinds.QuestionRefusal.{QuestionRefusal}
use Rattle.refusals.specs.declared.kinds.QuestionRefusal.TheVariants.{NoSuchTask}
use Rattle.tables.specs.declared.task.Task.{Task}
use Rattle.tables.specs.Tasks.{nobody}
use Rattle.tables.specs.Tables.{tasks_of}
use Rattle.tables.specs.Setting.{with_promotion}
use Rattle.orderings.specs.Meaning.{Meaning}
use Rattle.orderings.specs.Promotion.{promotion}
use Rattle.schedules.specs.declared.verdict.Verdict.{Verdict}
use Rattle.schedules.specs.declared.verdict.Verdict.TheVariants.{Holds, Misses}
use Rattle.schedules.specs.Schedule.{verdict_of}
use Rattle.searches.specs.declared.search.Stage.{Stage}
use Rattle.searches.specs.declared.search.Stage.TheVariants.{Open, Held, Stuck}
use Rattle.searches.specs.declared.search.Round.{Round}
use Rattle.searches.specs.declared.search.Round.TheVariants as round
use Rattle.searches.specs.declared.search.Search.{Search}

-- the tasks with the promotion times of a search, and how far it is
pub record Trial : Type 0 where
  pub tasks : List Task
  pub stage : Stage

-- what a search stands for
abbrev pub trial_of : {O : Type 0} → Search O → Trial
trial_of x = record { tasks = tasks_of x.layer.table; stage = x.stage }

abbrev pub ordering_below : {O : Type 0} → Search O → O
ordering_below x = x.layer.lower

-- each task with its S at its D
abbrev pub at_deadlines : List Task → List Task
at_deadlines ts = map (λ x. with_promotion x x.d) ts

-- a new search
abbrev pub begun : List Task → Trial
begun ts = record { tasks = at_deadlines ts; stage = Open }

-- the S of task i, one unit lower
abbrev pub lowered : List Task → ℕ → List Task
lowered ts i = slice_set ts i (with_promotion (slice_index_or ts i nobody) ((get_or ts i nobody).s - 1))

-- the verdict under the promotion layer over an ordering
abbrev pub tried : Meaning → List Task → Verdict
tried lower ts = verdict_of ts (promotion ts lower)

-- the verdict that a round goes by: an open search is tried, and one that is held or stuck was
abbrev pub verdict_from : Meaning → List Task → Stage → Verdict
verdict_from lower ts Open = tried lower ts
verdict_from lower ts Held = Holds
verdict_from lower ts (Stuck x) = Misses x

-- a round on an open search whose verdict is known: with a miss, the S of that task falls while it is above 0
abbrev pub after_verdict : List Task → Verdict → Trial
after_verdict ts Holds = record { tasks = ts; stage = Held }
after_verdict ts (Misses x) =
    cond (nat_lt 0 (get_or ts x.task nobody).s)
    (record { tasks = lowered ts x.task; stage = Open })
    (record { tasks = ts; stage = Stuck x })

abbrev pub answer_by_verdict : List Task → Verdict → Round
answer_by_verdict ts Holds = round.Held
answer_by_verdict ts (Misses x) = cond (nat_lt 0 (get_or ts x.task nobody).s) (round.Lowered x.task) (round.Stuck x)

-- a round by the stage: a search that is held or stuck stays as it is, and says the same again
abbrev pub after_from : Meaning → List Task → Stage → Trial
after_from lower ts Open = after_verdict ts (tried lower ts)
after_from lower ts Held = record { tasks = ts; stage = Held }
after_from lower ts (Stuck x) = record { tasks = ts; stage = Stuck x }

abbrev pub answer_from : Meaning → List Task → Stage → Round
answer_from lower ts Open = answer_by_verdict ts (tried lower ts)
answer_from lower ts Held = round.Held
answer_from lower ts (Stuck x) = round.Stuck x

abbrev pub round_after : Meaning → Trial → Trial
round_after lower t = after_from lower t.tasks t.stage

abbrev pub round_answer : Meaning → Trial → Round
round_answer lower t = answer_from lower t.tasks t.stage

-- so many rounds, one after the other
abbrev pub rounds : Meaning → ℕ → Trial → Trial
rounds lower zero t = t
rounds lower (suc n) t = round_after lower (rounds lower n t)

-- the S of a task, if there is such a task
abbrev pub promotion_answer : Trial → ℕ → Result ℕ QuestionRefusal
promotion_answer t i = cond (nat_lt i (length t.tasks)) (Ok (get_or t.tasks i nobody).s) (Err NoSuchTask)
