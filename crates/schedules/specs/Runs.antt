-- The state of a run, and what its calls answer and leave.
use Rattle.std.specs.Prelude.{◌≡◌, ℕ, ◌<◌, Bool, true, false, cond, List, map, length, take, Some, None, Ok, Err, Option, Result, ◌==◌, nat_le, nat_lt, slice_index_or, slice_set}
use Rattle.std.specs.Option.{option_map}
use Rattle.refusals.specs.declared.kinds.FinishRefusal.{FinishRefusal}
use Rattle.refusals.specs.declared.kinds.FinishRefusal.TheVariants as finish
use Rattle.refusals.specs.declared.kinds.QuestionRefusal.{QuestionRefusal}
use Rattle.refusals.specs.declared.kinds.QuestionRefusal.TheVariants.{NoSuchTask}
use Rattle.refusals.specs.declared.kinds.TickRefusal.{TickRefusal}
use Rattle.refusals.specs.declared.kinds.TickRefusal.TheVariants.{RunEnded}
use Rattle.tables.specs.declared.task.Task.{Task}
use Rattle.tables.specs.Tasks.{nobody}
use Rattle.orderings.specs.Meaning.{Meaning}
use Rattle.schedules.specs.declared.slot.Slot.{Slot}
use Rattle.schedules.specs.declared.slot.Progress.{Progress}
use Rattle.schedules.specs.Units.{at, picked, served, older, missed, released, renewed}

-- a slot for each task, and whether the run came to a miss
pub record State : Type 0 where
  pub slots : List Slot
  pub ended : Bool

-- the state that a run's memory stands for
abbrev pub state_of : List Task → Progress → State
state_of ts p = record { slots = take (length ts) p.slots; ended = p.ended }

-- no job of a run that goes on is as old as its period
abbrev pub Young : List Task → Progress → Type 0
Young ts p = p.ended ≡ false → (k : ℕ) → k < length ts → (at p.slots k).age < (slice_index_or ts k nobody).t

-- a new run
abbrev pub fresh : List Task → State
fresh ts = record { slots = map released ts; ended = false }

-- after the ages rose: a miss ends the run and keeps its ages and units, else jobs are released
abbrev pub closed : List Task → List Slot → Option ℕ → State
closed ts ss None = record { slots = renewed ts ss; ended = false }
closed ts ss (Some k) = record { slots = ss; ended = true }

-- the second half of a unit
abbrev pub advanced : List Task → List Slot → State
advanced ts ss = closed ts (map older ss) (missed ts (map older ss))

-- the slots at the end of a unit, where nothing is released yet
abbrev pub unit_end : Meaning → List Slot → List Slot
unit_end m ss = map older (served m ss)

-- a tick is both halves, one after the other; an ended run stays as it is
abbrev pub ticked : List Task → Meaning → State → State
ticked ts m st = cond st.ended st (advanced ts (served m st.slots))

-- the task that a tick names as missed
abbrev pub tick_miss : List Task → Meaning → State → Option ℕ
tick_miss ts m st = cond st.ended None (missed ts (unit_end m st.slots))

-- the task that ran and the task that missed
abbrev pub tick_answer : List Task → Meaning → State → Result (Option ℕ × Option ℕ) TickRefusal
tick_answer ts m st =
    cond st.ended (Err RunEnded) (Ok (option_map (λ j. j.task) (picked m st.slots), tick_miss ts m st))

-- an early finish is for a job that is ready, of a run that goes on
abbrev pub finish_fault : State → ℕ → Option FinishRefusal
finish_fault st i =
    cond st.ended (Some finish.RunEnded)
    (cond (nat_le (length st.slots) i) (Some finish.NoSuchTask)
    (cond ((at st.slots i).left == 0) (Some finish.NotReady) None))

abbrev pub finish_by : Option FinishRefusal → Result (Unit {0}) FinishRefusal
finish_by None = Ok tt
finish_by (Some e) = Err e

abbrev pub finish_answer : State → ℕ → Result (Unit {0}) FinishRefusal
finish_answer st i = finish_by (finish_fault st i)

-- it leaves the job no units
abbrev pub slots_finished : List Slot → ℕ → Option FinishRefusal → List Slot
slots_finished ss i None = slice_set ss i (record { age = (at ss i).age; left = 0 })
slots_finished ss i (Some e) = ss

abbrev pub finished : State → ℕ → State
finished st i = record { slots = slots_finished st.slots i (finish_fault st i); ended = st.ended }

abbrev pub age_answer : State → ℕ → Result ℕ QuestionRefusal
age_answer st i = cond (nat_lt i (length st.slots)) (Ok (at st.slots i).age) (Err NoSuchTask)

abbrev pub left_answer : State → ℕ → Result ℕ QuestionRefusal
left_answer st i = cond (nat_lt i (length st.slots)) (Ok (at st.slots i).left) (Err NoSuchTask)
