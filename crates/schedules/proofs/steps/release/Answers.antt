use Rattle.std.proofs.Common.{length, get_or, arith}
use Rattle.std.proofs.lemmas.List.FromFn.{fill_by_all}
use Rattle.tables.specs.Tasks.{nobody}
use Rattle.schedules.specs.Units.{at, renew, nothing}
use Rattle.schedules.proofs.steps.release.Goals as goal

pub returns : goal.returns
returns c =
    fill_by_all (λ k. renew (get_or c.args.tasks.now k nobody) (at c.args.slots.now k)) c.loop-k.slots (length c.args.slots.now) nothing
    c.loop-k.auto.slots (λ k h. c.loop-k.invariant.0 k (omega arith))
