use Rattle.std.proofs.Common.{◌≡◌, [], ◌∷◌, ◌++◌, sym, ap, ◌∙◌, subst, arith}
use Rattle.bounded.proofs.Held.{all_pushed}
use Rattle.bounded.specs.Lists.{items_of}
use Rattle.tables.specs.Divisors.{lcm}
use Rattle.tables.specs.Adding.{tasks_by}
use Rattle.tables.specs.Tasks.{Each, Timed, Ranked}
use Rattle.tables.specs.Tables.{tasks_of}
use Rattle.tables.specs.Hyperperiod.{hyperperiod_of}
use Rattle.tables.proofs.Multiples.{hyper_push, hyper_pos}
use Rattle.tables.proofs.Counted.{positive}
use Rattle.tables.proofs.Added.{each_push, timed_from, ranked_from, fault_none}
use Rattle.tables.proofs.table.Table.add.Goals as goal

pub least_multiple-h-requires-clause-positive : goal.least_multiple-h-requires-clause-positive
least_multiple-h-requires-clause-positive c =
    let p = hyper_pos (tasks_of c.args.self.now) (positive c.args.self.now) in
    omega (arith, c.hyperperiod.ensures.value)

pub invariant_of-self : goal.invariant_of-self
invariant_of-self c =
    let t = c.args.self.now in
    let x = c.args.task in
    let ts = tasks_of t in
    let more : items_of c.push.new.self ≡ ts ++ x ∷ [] = c.push.ensures.items_after ∙ all_pushed t.rows x (omega arith) in
    let v : c.least_multiple-h.result ≡ lcm (hyperperiod_of ts) x.t = c.least_multiple-h.ensures ∙ ap (λ h. lcm h x.t) c.hyperperiod.ensures.value in
    let times = timed_from x (sym c.if-not-times_within_bounds.ensures) in
    let ranks = ranked_from x (sym c.if-not-priorities_within_bounds.ensures) in
    let hp = ap hyperperiod_of more ∙ hyper_push ts x in record {
      timed = subst (Each Timed) (sym more) (each_push Timed ts x t.timed times);
      ranked = subst (Each Ranked) (sym more) (each_push Ranked ts x t.ranked ranks);
      short = omega arith;
    }

pub returns-clause-tasks_after : goal.returns-clause-tasks_after
returns-clause-tasks_after c =
    let t = c.args.self.now in
    let x = c.args.task in
    let ts = tasks_of t in
    let v : c.least_multiple-h.result ≡ lcm (hyperperiod_of ts) x.t = c.least_multiple-h.ensures ∙ ap (λ h. lcm h x.t) c.hyperperiod.ensures.value in
    let none = fault_none ts x (omega arith) (sym c.if-not-times_within_bounds.ensures) (sym c.if-not-priorities_within_bounds.ensures) (omega arith) in
    c.push.ensures.items_after ∙ all_pushed t.rows x (omega arith) ∙ sym (ap (tasks_by ts x) none)
