use Rattle.std.proofs.Common.{rules}
use Rattle.answers.proofs.Inputs.{taken_more}
use Rattle.answers.proofs.input.fill.Goals as goal

pub loop-len-preserved : goal.loop-len-preserved
loop-len-preserved g c =
    let read = c.in_ok-more.ensures in
    let before = c.loop-len.invariant in
    record {
      within = search rules;
      taken = taken_more _ _ _ c.loop-len.len c.in_ok-more.more _ c.loop-len.buffer c.read.new.buf before.within read.bound.0 before.taken read.bytes.0;
    }
