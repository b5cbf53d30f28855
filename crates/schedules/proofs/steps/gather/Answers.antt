use Rattle.std.proofs.Common.{arith}
use Rattle.schedules.proofs.Loops.{ready_counted, ready_all}
use Rattle.schedules.proofs.steps.gather.Goals as goal

pub loop-k-preserved : goal.loop-k-preserved
loop-k-preserved c =
    let r = ready_counted c.args.slots.now c.loop-k.k c.loop-k.ready c.loop-k.n c.loop-k-test.true (omega arith) c.loop-k.invariant.1 c.from-n.result c.from-n.ensures in
    (omega arith, r.1)

pub returns : goal.returns
returns c = record {
  jobs = ready_all c.args.slots.now c.loop-k.k c.loop-k.ready c.loop-k.n c.loop-k-test.false c.loop-k.invariant.1;
  bound = omega arith;
}
