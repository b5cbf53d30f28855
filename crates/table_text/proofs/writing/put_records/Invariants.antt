use Rattle.std.proofs.Common.{◌+◌, ◌≤◌, length, take, drop}
use Rattle.std.specs.List.{flat_map}
use Rattle.table_text.specs.Puts.{Put}
use Rattle.table_text.specs.Written.{record_text}
use Rattle.table_text.proofs.writing.put_records.Given as goal

abbrev pub invariant-loop-x : goal.invariant-loop-x
invariant-loop-x l =
    Put l.initial.out l.out l.start l.at (flat_map record_text (take l.x-index l.tasks))
    × (l.at + length (flat_map record_text (drop l.x-index l.tasks)) ≤ length l.initial.out)
