use Rattle.std.proofs.Common.{◌≡◌, ◌<◌, length, get_or, is_some, Some, Err, sym, ap, ◌∙◌, arith, rules}
use Rattle.refusals.specs.declared.kinds.LaxityRefusal.TheVariants.{NoResponse}
use Rattle.tables.specs.Tasks.{nobody}
use Rattle.tables.specs.Tables.{tasks_of}
use Rattle.viability.specs.Laxity.{lax_time, without_time, laxity_by, laxity_answer, tasks_lax_by}
use Rattle.viability.proofs.Laxities.{lacks_here, has_here, set_long, set_done, set_rest, all_set}
use Rattle.viability.proofs.laxity.set_by_laxity.Goals as goal

pub returns-in_err-s-clause-answer : goal.returns-in_err-s-clause-answer
returns-in_err-s-clause-answer c =
    let ts = tasks_of c.args.table.now in
    let first : without_time ts ≡ Some c.loop-i.i = lacks_here ts c.loop-i.i (omega arith) c.loop-i.invariant.0 (c.in_err-s.ensures.variant ∙ ap is_some c.lax_time.ensures) in
    let e : laxity_answer ts ≡ Err (NoResponse c.loop-i.i) = ap laxity_by first in
    search rules

pub returns-in_err-s-clause-tasks_after : goal.returns-in_err-s-clause-tasks_after
returns-in_err-s-clause-tasks_after c =
    let ts = tasks_of c.args.table.now in
    let first : without_time ts ≡ Some c.loop-i.i = lacks_here ts c.loop-i.i (omega arith) c.loop-i.invariant.0 (c.in_err-s.ensures.variant ∙ ap is_some c.lax_time.ensures) in
    sym (ap (tasks_lax_by ts) first)

pub loop-i-preserved : goal.loop-i-preserved
loop-i-preserved c =
    let ts = tasks_of c.args.table.now in
    let us = tasks_of c.loop-i.after in
    let i = c.loop-i.i in
    let s = c.in_ok-s.s in
    let h = c.loop-i.invariant in
    let within : i < length ts = omega arith in
    let time : lax_time ts i ≡ Some s = sym c.lax_time.ensures ∙ c.in_ok-s.ensures.ok_part in
    let set = c.set_promotion.ensures.tasks_after in (
      has_here ts i within h.0 s time,
      ap length set ∙ set_long ts us i s h.1 within h.2 h.3 time,
      (λ k l. ap (λ xs. get_or xs k nobody) set ∙ set_done ts us i s h.1 within h.2 h.3 time k l),
      (λ k l. ap (λ xs. get_or xs k nobody) set ∙ set_rest ts us i s h.1 within h.2 h.3 time k l),
    )

pub returns-clause-tasks_after : goal.returns-clause-tasks_after
returns-clause-tasks_after c =
    let h = c.loop-i.invariant in
    all_set (tasks_of c.args.table.now) (tasks_of c.loop-i.after) c.loop-i.i (omega arith) h.0 h.1 h.2
