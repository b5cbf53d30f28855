-- Worked schedules: what the definitions say of four small tables.
use Rattle.std.specs.Prelude.{◌≡◌, ℕ, List, [], ◌∷◌, Ok}
use Rattle.tables.specs.declared.task.Task.{Task}
use Rattle.orderings.specs.Meaning.{Meaning}
use Rattle.orderings.specs.Fixed.{fixed}
use Rattle.orderings.specs.Deadline.{deadline}
use Rattle.orderings.specs.Promotion.{promotion}
use Rattle.viability.specs.OwnList.{own_list}
use Rattle.viability.specs.Laxity.{laxity_answer, tasks_after_laxity}
use Rattle.searches.specs.declared.search.Round.TheVariants.{Lowered, Held}
use Rattle.searches.specs.Searches.{begun, round_answer, rounds}
use Rattle.schedules.specs.declared.call.Call.TheVariants.{Tick, FinishEarly}
use Rattle.schedules.specs.declared.verdict.Verdict.{Verdict}
use Rattle.schedules.specs.declared.verdict.Verdict.TheVariants.{Holds, Misses}
use Rattle.schedules.specs.Units.{at}
use Rattle.schedules.specs.Schedule.{full, verdict_of}
use Rattle.schedules.specs.Live.{live}

abbrev pub task : ℕ → ℕ → ℕ → ℕ → ℕ → ℕ → Task
task c d t p1 p2 s = record { c = c; d = d; t = t; p1 = p1; p2 = p2; s = s }

-- two tasks that fill the processor; S of the second is open
abbrev pub K : ℕ → List Task
K s = task 2 4 4 2 0 4 ∷ task 3 6 6 3 1 s ∷ []

-- two tasks that cannot wait for one another, and one that can wait for both
abbrev pub M : List Task
M = task 2 5 5 0 0 5 ∷ task 4 7 7 0 0 7 ∷ task 1 35 35 0 0 35 ∷ []

-- three tasks that can wait; S of each is open
abbrev pub Q : ℕ → ℕ → ℕ → List Task
Q x y z = task 1 4 4 0 0 x ∷ task 2 6 6 0 1 y ∷ task 1 12 12 0 2 z ∷ []

-- two tasks of one period, of which the first cannot wait at all; P1 of each is open
abbrev pub V : ℕ → ℕ → List Task
V x y = task 1 1 2 x 0 1 ∷ task 1 2 2 y 0 2 ∷ []

abbrev pub miss : ℕ → ℕ → Verdict
miss i n = Misses (record { task = i; instant = n })

-- promotion over fixed priorities, both made from the same table
abbrev pub promoted : List Task → Meaning
promoted ts = promotion ts (fixed ts)

pub record WorkedRows : Type 0 where
  pub empty_fixed : verdict_of [] (fixed []) ≡ Holds
  pub K-fixed : verdict_of (K 6) (fixed (K 6)) ≡ miss 1 6
  pub K-promoted-at-5 : verdict_of (K 5) (promoted (K 5)) ≡ Holds
  pub K-promoted-at-6 : verdict_of (K 6) (promoted (K 6)) ≡ miss 1 6
  pub K-deadline : verdict_of (K 6) (deadline (K 6)) ≡ Holds
  -- over fixed priorities made from the table as it is
  pub K-first-round : round_answer (fixed (K 6)) (begun (K 6)) ≡ Lowered 1
  pub K-second-round : round_answer (fixed (K 6)) (rounds (fixed (K 6)) 1 (begun (K 6))) ≡ Held
  pub K-searched : (rounds (fixed (K 6)) 2 (begun (K 6))).tasks ≡ K 5
  pub K-background : own_list (K 6) ≡ []
  pub M-background : own_list M ≡ 2 ∷ []
  pub Q-background : own_list (Q 4 6 12) ≡ 2 ∷ 1 ∷ 0 ∷ []
  pub V-fixed-0-1 : verdict_of (V 0 1) (fixed (V 0 1)) ≡ Holds
  pub V-fixed-1-0 : verdict_of (V 1 0) (fixed (V 1 0)) ≡ miss 0 1
  -- an early finish of task 0 and three ticks leave task 1 nothing, where the full schedule leaves it 2 units
  pub K-live : (at (live (K 5) (promoted (K 5)) (FinishEarly 0 ∷ Tick ∷ Tick ∷ Tick ∷ [])).state.slots 1).left ≡ 0
  pub K-full : (at (full (K 5) (promoted (K 5)) 3).slots 1).left ≡ 2
  pub Q-laxity-answer : laxity_answer (Q 4 6 12) ≡ Ok tt
  pub Q-laxity : tasks_after_laxity (Q 4 6 12) ≡ Q 3 3 8
