-- The first condition that an added task breaks, and what the bounds' tests say.
use Rattle.std.proofs.Common.{◌≡◌, ◌<◌, ◌≤◌, true, List, [], ◌∷◌, ◌++◌, length, None, arith}
use Rattle.std.proofs.lemmas.Grind.{common_steps}
use Rattle.tables.specs.declared.task.Task.{Task}
use Rattle.tables.specs.Divisors.{lcm}
use Rattle.tables.specs.Tasks.{Each, Timed, Ranked}
use Rattle.tables.specs.Hyperperiod.{hyperperiod_of}
use Rattle.tables.specs.Adding.{timely, well_ranked, add_fault}

pub each_push : (P : Task → Type 0) (ts : List Task) (x : Task) → Each P ts → P x → Each P (ts ++ x ∷ [])
each_push P ts x all p k h = grind (arith, common_steps)

pub timed_from : (x : Task) → timely x ≡ true → Timed x
timed_from x e = grind (arith, common_steps)

pub ranked_from : (x : Task) → well_ranked x ≡ true → Ranked x
ranked_from x e = grind (arith, common_steps)

-- and the other way round
pub timely_is : (x : Task) → Timed x → timely x ≡ true
timely_is x h = grind (arith, common_steps)

pub well_ranked_is : (x : Task) → Ranked x → well_ranked x ≡ true
well_ranked_is x h = grind (arith, common_steps)

-- nothing refuses a task that keeps all bounds
pub fault_none : (ts : List Task) (x : Task) → length ts < 32 → timely x ≡ true → well_ranked x ≡ true → lcm (hyperperiod_of ts) x.t ≤ 1000000000 → add_fault ts x ≡ None
fault_none ts x h e f l = grind (arith, common_steps)
