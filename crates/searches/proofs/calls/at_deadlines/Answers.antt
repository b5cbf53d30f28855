use Rattle.std.proofs.Common.{◌≡◌, ◌<◌, length, get_or, ap, ◌∙◌, arith}
use Rattle.tables.specs.Tasks.{nobody}
use Rattle.tables.specs.Tables.{tasks_of}
use Rattle.tables.specs.Setting.{tasks_after_setting}
use Rattle.searches.proofs.Moved.{half_moved, half_moved_more, half_moved_all}
use Rattle.searches.proofs.calls.at_deadlines.Goals as goal

pub loop-i-preserved : goal.loop-i-preserved
loop-i-preserved c =
    let ts = tasks_of c.args.table.now in
    let items = c.tasks-task-items.result.now in
    let i = c.loop-i.i in
    let listed = c.tasks-task-items.ensures in
    let h : i < length ts = omega (arith, ap length listed) in
    let set : tasks_of c.set_promotion.new.self ≡ tasks_after_setting (tasks_of c.loop-i.moved) i (get_or items i nobody).d =
    c.set_promotion.ensures.tasks_after in
    set
    ∙ ap (λ us. tasks_after_setting us i (get_or items i nobody).d) c.loop-i.invariant
    ∙ ap (λ us. tasks_after_setting (half_moved ts i) i (get_or us i nobody).d) listed
    ∙ half_moved_more ts i h

pub returns : goal.returns
returns c =
    let ts = tasks_of c.args.table.now in
    let i = c.loop-i.i in
    c.loop-i.invariant ∙ half_moved_all ts i (omega (arith, ap length c.tasks-task-items.ensures))
