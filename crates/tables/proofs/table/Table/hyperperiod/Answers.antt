use Rattle.std.proofs.Common.{◌≡◌, length, get_or, sym, ap, subst, arith}
use Rattle.std.proofs.lemmas.Grind.{common_steps}
use Rattle.tables.specs.Tasks.{nobody, Timed}
use Rattle.tables.specs.Hyperperiod.{hyperperiod_of, LeastCommonMultiple}
use Rattle.tables.specs.Tables.{tasks_of}
use Rattle.tables.proofs.Multiples.{hyper_nil, hyper_more, hyper_front, hyper_least}
use Rattle.tables.proofs.Counted.{positive}
use Rattle.tables.proofs.table.Table.hyperperiod.Goals as goal

pub loop-x-init : goal.loop-x-init
loop-x-init c = sym hyper_nil

pub least_multiple-h-requires : goal.least_multiple-h-requires
least_multiple-h-requires c =
    let t = c.args.self.now in
    let e = rw c.tasks-x-items.ensures at c.loop-x.invariant in
    let n = ap length c.tasks-x-items.ensures in
    let f = hyper_front (tasks_of t) c.loop-x.x-index (positive t) in
    let l : Timed (get_or (tasks_of t) c.loop-x.x-index nobody) = t.timed c.loop-x.x-index (omega arith) in
    let m = ap (λ ts. (get_or ts c.loop-x.x-index nobody).t) c.tasks-x-items.ensures in
    record { positive = omega arith; first = omega (arith, t.short); second = omega (arith, l.3) }

pub loop-x-preserved : goal.loop-x-preserved
loop-x-preserved c = let e = hyper_more c.tasks-x-items.result.now c.loop-x.x-index c.loop-x-test.true in cc

pub returns-clause-least_common_multiple : goal.returns-clause-least_common_multiple
returns-clause-least_common_multiple c =
    let t = c.args.self.now in
    let e : c.loop-x.h ≡ hyperperiod_of (tasks_of t) = grind (arith, common_steps) in
    subst (LeastCommonMultiple (tasks_of t)) (sym e) (hyper_least (tasks_of t) (positive t))
