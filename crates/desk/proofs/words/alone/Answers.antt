use Rattle.std.proofs.Common.{string_bytes}
use Rattle.desk.proofs.Lists.{none_behind, some_behind}
use Rattle.desk.proofs.words.alone.Goals as goal

pub returns-then-is_empty : goal.returns-then-is_empty
returns-then-is_empty c = none_behind string_bytes c.args.command c.args.words.now c.if-is_empty.ensures

pub returns-else-is_empty : goal.returns-else-is_empty
returns-else-is_empty c = some_behind string_bytes c.args.command c.args.words.now c.if-is_empty.ensures
