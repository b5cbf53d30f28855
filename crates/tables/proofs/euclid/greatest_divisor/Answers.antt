use Rattle.std.proofs.Common.{arith}
use Rattle.tables.proofs.Divides.{gcd_zero, gcd_step}
use Rattle.tables.proofs.euclid.greatest_divisor.Goals as goal

pub loop-y-preserved : goal.loop-y-preserved
loop-y-preserved c = grind (arith, gcd_step)

pub returns : goal.returns
returns c = grind (arith, gcd_zero)
