-- Live runs: what any list of calls does to a new run, beside the full schedule.
use Rattle.std.specs.Prelude.{◌≡◌, ℕ, suc, ◌≤◌, false, cond, List, Some, None, fold, Option}
use Rattle.tables.specs.declared.task.Task.{Task}
use Rattle.orderings.specs.Meaning.{Meaning}
use Rattle.schedules.specs.declared.call.Call.{Call}
use Rattle.schedules.specs.declared.call.Call.TheVariants.{Tick, FinishEarly, AskAge, AskLeft}
use Rattle.schedules.specs.declared.verdict.Miss.{Miss}
use Rattle.schedules.specs.declared.verdict.Verdict.{Verdict}
use Rattle.schedules.specs.declared.verdict.Verdict.TheVariants.{Holds, Misses}
use Rattle.schedules.specs.Units.{at}
use Rattle.schedules.specs.Runs.{State, fresh, ticked, tick_miss, finished}
use Rattle.schedules.specs.Schedule.{full}

-- a run by its state, its instant (how many ticks were accepted) and the miss that it came to
pub record Live : Type 0 where
  pub state : State
  pub instant : ℕ
  pub miss : Option Miss

-- what a tick names, with the instant that it leads to; a run that came to a miss keeps it
abbrev pub miss_after : Option Miss → ℕ → Option ℕ → Option Miss
miss_after old n None = old
miss_after old n (Some i) = Some (record { task = i; instant = n })

-- a refused call changes nothing, and a tick is accepted unless the run has ended
abbrev pub called : List Task → Meaning → Live → Call → Live
called ts m l Tick = record {
  state = ticked ts m l.state;
  instant = cond l.state.ended l.instant (suc l.instant);
  miss = miss_after l.miss (suc l.instant) (tick_miss ts m l.state);
}
called ts m l (FinishEarly i) = record { state = finished l.state i; instant = l.instant; miss = l.miss }
called ts m l (AskAge i) = l
called ts m l (AskLeft i) = l

-- a new run after a list of calls, in which some may be refused and some repeated, in any order
abbrev pub live : List Task → Meaning → List Call → Live
live ts m cs = fold (called ts m) (record { state = fresh ts; instant = 0; miss = None }) cs

-- the ages are equal, and no task has more units left
abbrev pub Within : State → State → Type 0
Within l f = (i : ℕ) → ((at l.slots i).age ≡ (at f.slots i).age) × ((at l.slots i).left ≤ (at f.slots i).left)

-- After every list of calls on a new run: where the full schedule has come to no miss up to the run's instant, each age is
-- as in the full schedule at that instant, and no task has more units left than there.
abbrev pub LiveStaysWithinFull : List Task → Meaning → Type 0
LiveStaysWithinFull ts m = (cs : List Call) → (full ts m (live ts m cs).instant).ended ≡ false → Within (live ts m cs).state (full ts m (live ts m cs).instant)

-- Holds: no list of calls brings a live run to a miss. Else some list brings one to the named miss, and none to an
-- earlier one.
abbrev pub SaysOfEveryLiveRun : List Task → Meaning → Verdict → Type 0
SaysOfEveryLiveRun ts m Holds = (cs : List Call) → (live ts m cs).miss ≡ None
SaysOfEveryLiveRun ts m (Misses x) =
    ((cs : List Call) × ((live ts m cs).miss ≡ Some x))
    × ((cs : List Call) (y : Miss) → (live ts m cs).miss ≡ Some y → x.instant ≤ y.instant)
