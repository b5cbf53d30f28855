use Rattle.std.proofs.Common.{arith}
use Rattle.tables.proofs.Divides.{gcd_pos}
use Rattle.tables.proofs.euclid.least_multiple.Goals as goal

pub nonzero_div-result : goal.nonzero_div-result
nonzero_div-result c = let h = gcd_pos c.args.a c.args.b (omega arith) in omega arith
