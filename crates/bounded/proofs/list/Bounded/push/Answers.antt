use Rattle.std.proofs.Common.{arith}
use Rattle.bounded.proofs.Held.{push_with_room, push_without_room}
use Rattle.bounded.proofs.list.Bounded.push.Goals as goal

pub returns-then-self-clause-items_after : goal.returns-then-self-clause-items_after
returns-then-self-clause-items_after g c = push_with_room c.args.self.now c.args.x (omega arith)

pub returns-else-self-clause-items_after : goal.returns-else-self-clause-items_after
returns-else-self-clause-items_after g c = push_without_room c.args.self.now c.args.x (omega arith)
