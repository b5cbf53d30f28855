-- Promotion times by laxity: each as late as its task can wait.
use Rattle.std.specs.Prelude.{ℕ, ◌-◌, Bool, not, ◌&&◌, ◌||◌, List, map, length, get_or, is_some, Some, None, Ok, Err, Option, Result, ◌==◌, nat_le, nat_lt, slice_index_or}
use Rattle.std.specs.List.{range_with_len}
use Rattle.std.specs.Option.{option_map}
use Rattle.refusals.specs.declared.kinds.LaxityRefusal.{LaxityRefusal}
use Rattle.refusals.specs.declared.kinds.LaxityRefusal.TheVariants.{NoResponse}
use Rattle.tables.specs.declared.task.Task.{Task}
use Rattle.tables.specs.Tasks.{nobody}
use Rattle.tables.specs.Setting.{with_promotion}
use Rattle.firsts.specs.Lowest.{lowest}
use Rattle.viability.specs.Viable.{response}

-- is task j at least as urgent as task i when both are promoted? A smaller P2, or the same and no greater number
abbrev pub as_urgent : List Task → ℕ → ℕ → Bool
as_urgent ts i j =
    nat_lt (get_or ts j nobody).p2 (get_or ts i nobody).p2 || ((get_or ts j nobody).p2 == (get_or ts i nobody).p2 && nat_le j i)

-- task i itself and those that are more urgent
abbrev pub urgent_set : List Task → ℕ → List Bool
urgent_set ts i = map (as_urgent ts i) (range_with_len 0 (length ts))

-- the promotion time of task i by laxity: its deadline less its response time within that set
abbrev pub lax_time : List Task → ℕ → Option ℕ
lax_time ts i = option_map (λ r. (get_or ts i nobody).d - r) (response ts (urgent_set ts i) i)

-- the lowest task that has none
abbrev pub without_time : List Task → Option ℕ
without_time ts = lowest (λ i. not (is_some (lax_time ts i))) 0 (length ts)

abbrev pub laxity_by : Option ℕ → Result (Unit {0}) LaxityRefusal
laxity_by None = Ok tt
laxity_by (Some i) = Err (NoResponse i)

abbrev pub laxity_answer : List Task → Result (Unit {0}) LaxityRefusal
laxity_answer ts = laxity_by (without_time ts)

abbrev pub with_time : Task → Option ℕ → Task
with_time x None = x
with_time x (Some s) = with_promotion x s

-- every task gets its time, or none does
abbrev pub tasks_lax_by : List Task → Option ℕ → List Task
tasks_lax_by ts None = map (λ i. with_time (slice_index_or ts i nobody) (lax_time ts i)) (range_with_len 0 (length ts))
tasks_lax_by ts (Some i) = ts

abbrev pub tasks_after_laxity : List Task → List Task
tasks_after_laxity ts = tasks_lax_by ts (without_time ts)
