use Rattle.std.proofs.Common.{◌≡◌, ◌+◌, ◌<◌, ◌≤◌, length, get_or, sum_by, sym, ap, ◌∙◌, subst, arith}
use Rattle.std.proofs.lemmas.List.{take_all}
use Rattle.std.proofs.lemmas.List.Sums.{sum_by_more}
use Rattle.tables.specs.Tasks.{nobody, Timed}
use Rattle.tables.specs.Tables.{tasks_of}
use Rattle.searches.proofs.Searched.{ends}
use Rattle.desk.proofs.rounds.enough_rounds.Goals as goal

pub loop-task-preserved : goal.loop-task-preserved
loop-task-preserved c =
    let t = c.args.table.now in
    let ts = tasks_of t in
    let i = c.loop-task.task-index in
    let e = c.tasks-task-items.ensures in
    let h : i < length ts = subst (λ l. i < length l) e c.loop-task-test.true in
    let d : (get_or c.tasks-task-items.result.now i nobody).d ≡ (get_or ts i nobody).d = ap (λ l. (get_or l i nobody).d) e in
    let timed : Timed (get_or ts i nobody) = t.timed i h in (
      ap (λ k. c.loop-task.sum + k) d ∙ ap (λ k. k + (get_or ts i nobody).d) c.loop-task.invariant.0 ∙ sym (sum_by_more (λ x. x.d) ts i nobody h),
      omega (arith, c.loop-task.invariant.1),
    )

pub returns : goal.returns
returns c =
    let ts = tasks_of c.args.table.now in
    let e = c.tasks-task-items.ensures in
    let all = take_all c.loop-task.task-index ts (subst (λ l. length l ≤ c.loop-task.task-index) e c.loop-task-test.false) in
    let is : c.loop-task.sum ≡ sum_by (λ x. x.d) ts = c.loop-task.invariant.0 ∙ ap (sum_by (λ x. x.d)) all in
    record {
      value = ap (λ k. k + 1) is;
      ends_every_search = λ lower. ends ts lower (c.loop-task.sum + 1) (omega arith);
    }
