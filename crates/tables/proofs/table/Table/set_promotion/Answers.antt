use Rattle.std.proofs.Common.{◌<◌, length, set, sym, ap, ◌∙◌, subst, arith}
use Rattle.tables.specs.Tasks.{Each, Timed, Ranked}
use Rattle.tables.specs.Tables.{tasks_of}
use Rattle.tables.specs.Hyperperiod.{hyperperiod_of}
use Rattle.tables.specs.Setting.{with_promotion, tasks_set_by}
use Rattle.tables.specs.declared.task.Task.{Task}
use Rattle.tables.proofs.Multiples.{hyper_set}
use Rattle.tables.proofs.Set.{at_some, each_set, fault_nothing}
use Rattle.tables.proofs.table.Table.set_promotion.Goals as goal

pub invariant_of-self : goal.invariant_of-self
invariant_of-self c =
    let t = c.args.self.now in
    let i = c.args.i in
    let ts = tasks_of t in
    let task = at_some ts i c.args.s c.in_ok-task.task (sym c.get.ensures ∙ c.in_ok-task.ensures.ok_part) in
    let h : i < length ts = task.0 in
    let b = ap (λ (y : Task). y.d) task.1 in
    let x = with_promotion c.in_ok-task.task c.args.s in
    let same = c.set.ensures in
    let times : Timed c.in_ok-task.task = subst Timed task.1 (t.timed i h) in
    let ranks : Ranked c.in_ok-task.task = subst Ranked task.1 (t.ranked i h) in record {
      timed = subst (Each Timed) (sym same) (each_set Timed ts i x h t.timed times);
      ranked = subst (Each Ranked) (sym same) (each_set Ranked ts i x h t.ranked (ranks.0, ranks.1, omega arith));
      short = let hp = ap hyperperiod_of same ∙ hyper_set ts i x h (ap (λ (y : Task). y.t) (sym task.1)) in let short = t.short in omega arith;
    }

pub returns-clause-tasks_after : goal.returns-clause-tasks_after
returns-clause-tasks_after c =
    let t = c.args.self.now in
    let i = c.args.i in
    let ts = tasks_of t in
    let task = at_some ts i c.args.s c.in_ok-task.task (sym c.get.ensures ∙ c.in_ok-task.ensures.ok_part) in
    let b = ap (λ (y : Task). y.d) task.1 in
    let e = fault_nothing ts i c.args.s (omega arith) (omega arith) in
    c.set.ensures ∙ ap (λ y. set ts i (with_promotion y c.args.s)) (sym task.1) ∙ ap (tasks_set_by ts i c.args.s) (sym e)
