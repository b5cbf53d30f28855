-- What the orderings that have a name mean for the tasks of a table.
use Rattle.std.specs.Prelude.{List}
use Rattle.tables.specs.declared.task.Task.{Task}
use Rattle.orderings.specs.Meaning.{Meaning}
use Rattle.orderings.specs.Fixed.{fixed}
use Rattle.orderings.specs.Deadline.{deadline}
use Rattle.orderings.specs.TwoPhase.{two_phase}
use Rattle.orderings.specs.Promotion.{promotion}
use Rattle.orderings.specs.Background.{background}
use Rattle.viability.specs.OwnList.{own_list}
use Rattle.desk.specs.declared.naming.Base.{Base}
use Rattle.desk.specs.declared.naming.Base.TheVariants.{Fixed, Deadline, TwoPhase}
use Rattle.desk.specs.declared.naming.Named.{Named}
use Rattle.desk.specs.declared.naming.Named.TheVariants.{Plain, Promotion, Background}

abbrev pub base_meaning : List Task → Base → Meaning
base_meaning ts Fixed = fixed ts
base_meaning ts Deadline = deadline ts
base_meaning ts TwoPhase = two_phase ts

-- the ordering that stands on no other
abbrev pub lowest_of : Named → Base
lowest_of (Plain b) = b
lowest_of (Promotion b) = b
lowest_of (Background b) = b

-- the layer of a named ordering, made from the tasks, over a lower ordering
abbrev pub layered : List Task → Named → Meaning → Meaning
layered ts (Plain b) lower = lower
layered ts (Promotion b) lower = promotion ts lower
layered ts (Background b) lower = background (own_list ts) lower

abbrev pub named_meaning : List Task → Named → Meaning
named_meaning ts n = layered ts n (base_meaning ts (lowest_of n))
