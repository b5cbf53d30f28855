-- What a verdict says of the table with its own background list behind the ordering.
use Rattle.std.specs.Prelude.{◌≡◌, List}
use Rattle.tables.specs.declared.task.Task.{Task}
use Rattle.orderings.specs.Meaning.{Meaning}
use Rattle.orderings.specs.Background.{background}
use Rattle.viability.specs.OwnList.{own_list}
use Rattle.schedules.specs.declared.verdict.Verdict.{Verdict}
use Rattle.schedules.specs.declared.verdict.Verdict.TheVariants.{Holds, Misses}
use Rattle.schedules.specs.Schedule.{verdict_of}

-- A table that holds under an ordering also holds under the background layer over it with the table's own list. A miss
-- says nothing of that layer.
abbrev pub HoldsInBackgroundToo : List Task → Meaning → Verdict → Type 0
HoldsInBackgroundToo ts m Holds = verdict_of ts (background (own_list ts) m) ≡ Holds
HoldsInBackgroundToo ts m (Misses x) = Unit {0}
