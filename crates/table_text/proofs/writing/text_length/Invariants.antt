use Rattle.std.proofs.Common.{◌≡◌, ◌+◌, ◌*◌, ◌≤◌, length, drop}
use Rattle.std.specs.List.{flat_map}
use Rattle.table_text.specs.Written.{record_text, table_text}
use Rattle.table_text.proofs.writing.text_length.Given as goal

abbrev pub invariant-loop-x : goal.invariant-loop-x
invariant-loop-x l = (l.n + length (flat_map record_text (drop l.x-index l.tasks)) ≡ length (table_text l.tasks)) × (l.n ≤ 15 + l.x-index * 67)
