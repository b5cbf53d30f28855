use Rattle.std.proofs.Common.{string_bytes}
use Rattle.desk.proofs.Lists.{no_command, other_word}
use Rattle.desk.proofs.words.command_of.Goals as goal

pub returns-in_default : goal.returns-in_default
returns-in_default c = no_command string_bytes c.args.words.now c.in_default.ensures.cases

pub returns-in_default-as_str : goal.returns-in_default-as_str
returns-in_default-as_str c =
    let w = c.in-Some in
    let o = c.in_default-as_str in
    other_word string_bytes w.word.now w.rest.now c.args.words.now c.as_str.result.now w.ensures.cases.0 c.as_str.ensures.value
    o.not-verdict o.not-search o.not-laxity o.not-background
