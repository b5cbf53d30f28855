use Rattle.std.proofs.Common.{◌≡◌, ◌*◌, ◌≤◌, ◌++◌, length, take}
use Rattle.std.specs.List.{flat_map}
use Rattle.texts.specs.Texts.{bytes_of}
use Rattle.desk.specs.Printed.{numbers_header, number_record}
use Rattle.desk.proofs.outputs.numbers_text.Given as goal

abbrev pub invariant-loop-number : goal.invariant-loop-number
invariant-loop-number l =
    (bytes_of l.page ≡ numbers_header ++ flat_map number_record (take l.number-index l.numbers))
    × (length (flat_map number_record (take l.number-index l.numbers)) ≤ l.number-index * 12)
