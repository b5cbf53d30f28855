use Rattle.std.proofs.Common.{arith}
use lib.Seq.{take-set-lt}
use Rattle.bounded.proofs.list.Bounded.set.Goals as goal

pub returns-then-i-self : goal.returns-then-i-self
returns-then-i-self g c = take-set-lt c.args.self.now.count c.args.self.now.items c.args.i c.args.x (omega arith)
