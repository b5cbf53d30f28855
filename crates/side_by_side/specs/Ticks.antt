-- What a tick of a run under the two-phase ordering answers, and the state that it leaves.
use Rattle.std.specs.Prelude.{ℕ, Option, Result}
use Rattle.refusals.specs.declared.kinds.TickRefusal.{TickRefusal}
use Rattle.tables.specs.Tables.{tasks_of}
use Rattle.orderings.specs.Meaning.{Meaning}
use Rattle.orderings.specs.TwoPhase.{two_phase}
use Rattle.orderings.specs.declared.keyed.Keyed.{Keyed}
use Rattle.orderings.specs.declared.two_phase.PhasePriority.{PhasePriority}
use Rattle.schedules.specs.declared.run.Run.{Run}
use Rattle.schedules.specs.Runs.{State, ticked, tick_answer}
use Rattle.schedules.specs.Views.{tasks_of_run, ordering_of_run, state_of_run}

abbrev pub meaning_of_run : Run (Keyed PhasePriority) → Meaning
meaning_of_run r = two_phase (tasks_of (ordering_of_run r).table)

abbrev pub answer_of_tick : Run (Keyed PhasePriority) → Result (Option ℕ × Option ℕ) TickRefusal
answer_of_tick r = tick_answer (tasks_of_run r) (meaning_of_run r) (state_of_run r)

abbrev pub state_after_tick : Run (Keyed PhasePriority) → State
state_after_tick r = ticked (tasks_of_run r) (meaning_of_run r) (state_of_run r)
