use Rattle.std.proofs.Common.{◌≡◌, take}
use Rattle.tables.specs.Hyperperiod.{hyperperiod_of}
use Rattle.tables.proofs.table.Table.hyperperiod.Given as goal

abbrev pub invariant-loop-x : goal.invariant-loop-x
invariant-loop-x l = l.h ≡ hyperperiod_of (take l.x-index l.x-items)
