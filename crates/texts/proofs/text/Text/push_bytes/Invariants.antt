use Rattle.std.proofs.Common.{◌≡◌, take}
use Rattle.texts.specs.Texts.{bytes_of, pushed}
use Rattle.texts.proofs.text.Text.push_bytes.Given as goal

abbrev pub invariant-loop-b : goal.invariant-loop-b
invariant-loop-b g l = bytes_of l.self ≡ pushed g.row.N (bytes_of l.initial.self) (take l.b-index l.bytes)
