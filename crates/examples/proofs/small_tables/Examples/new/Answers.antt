use Rattle.examples.proofs.Worked.{rows}
use Rattle.examples.proofs.small_tables.Examples.new.Goals as goal

pub returns : goal.returns
returns c =
    record { k = c.k.ensures; m = c.m.ensures; q = c.q.ensures; v = c.v.ensures; turned = c.turned.ensures; worked_rows = rows }
