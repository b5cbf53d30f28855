use Rattle.std.proofs.Common.{◌≡◌, drop}
use Rattle.desk.specs.Words.{all_named, named_in, named_of}
use Rattle.desk.proofs.words.NamedFromStr.from_str.Given as goal

-- the names so far are other words
abbrev pub invariant-loop-named : goal.invariant-loop-named
invariant-loop-named l = named_of l.word ≡ named_in (drop l.named-index all_named) l.word
