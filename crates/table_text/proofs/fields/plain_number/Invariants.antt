use Rattle.std.proofs.Common.{◌≡◌, ◌^◌, ◌<◌, drop}
use Rattle.table_text.specs.Fields.{digits_after}
use Rattle.table_text.proofs.fields.plain_number.Given as goal

abbrev pub invariant-loop-b : goal.invariant-loop-b
invariant-loop-b l = (digits_after l.v (drop l.b-index l.s) ≡ digits_after 0 l.s) × (l.v < 10 ^ l.b-index)
