use Rattle.std.proofs.Common.{not, eqb, ◌++◌, map, length, get_or, take, drop, is_some, sym, ap, ◌∙◌, arith}
use Rattle.std.proofs.lemmas.List.{length-map}
use Rattle.tables.specs.Tasks.{nobody}
use Rattle.tables.specs.Tables.{tasks_of}
use Rattle.tables.proofs.Counted.{tasks_few}
use Rattle.schedules.specs.Units.{at, older, missed, renewed}
use Rattle.schedules.proofs.Slots.{renewed_same}
use Rattle.schedules.proofs.Viewed.{Advancing, closed_missed, closed_same, closed_renewed, advanced_wide, advanced_state, advanced_young}
use Rattle.schedules.proofs.run.Run.advance.Given.{Over}
use Rattle.schedules.proofs.run.Run.advance.Goals as goal
use Rattle.schedules.proofs.run.Run.advance.Goals.{then-grown+then-is_none, else-grown, else-grown-via-then-grown+else-is_none, else-grown-via-else-grown, After-is_some-progress}

advancing : (g : Over) (c : After-is_some-progress g)
    → Advancing (tasks_of c.args.self.now.table.now) c.tasks-tasks.result.now c.args.self.now.progress c.if-grown.progress.slots c.is_some-progress.result
advancing g c =
    let s = c.args.self.now in
    let ts = c.tasks-tasks.result.now in
    let ss = map older (take (length ts) s.progress.slots) in
    let rest = drop (length ts) s.progress.slots in
    let e = c.grow-grown.ensures in
    let n = length-map (take (length ts) s.progress.slots) older in
    record {
      going = record { few = tasks_few s.table.now; timed = s.table.now.timed; wide = s.wide; young = s.young; on = c.requires };
      same = c.tasks-tasks.ensures;
      after = elim c.if-grown.branch [
        | then-grown+then-is_none w ↦
            ap (λ p. p.slots) w.progress-is
            ∙ ap (λ l. l ++ rest)
            (w.release.ensures ∙ ap (renewed ts) e.after ∙ sym (closed_renewed ts ss (missed ts ss) (ap is_some (sym e.miss) ∙ w.is_none.ensures ∙ ap not w.if-is_none.true)))
        | else-grown w ↦ ap (λ p. p.slots) w.progress-is ∙ (elim w.else-grown.branch [
          | else-grown-via-then-grown+else-is_none w' ↦
              ap (λ p. p.slots) w'.progress-is
              ∙ ap (λ l. l ++ rest) (e.after ∙ sym (closed_missed ts ss (missed ts ss) (ap is_some (sym e.miss) ∙ w'.is_none.ensures ∙ ap not w'.if-is_none.false)))
          | else-grown-via-else-grown w' ↦
              ap (λ p. p.slots) w'.progress-is
              ∙ ap (λ l. l ++ rest)
              (e.after ∙ sym (closed_same ts ss (missed ts ss) (renewed_same ts ss (λ k h. ap (λ l. eqb (at l k).age (get_or ts k nobody).t) (sym e.after) ∙ e.due w'.if-grown.false k (omega arith)))))
        ])
      ];
      ends = c.is_some-progress.ensures ∙ ap is_some e.miss;
    }

pub invariant_of-self : goal.invariant_of-self
invariant_of-self g c =
    let u = advancing g (goal.at.invariant_of-self g c).After-is_some-progress in
    record { wide = advanced_wide u; room = c.args.self.now.room; young = advanced_young u }

pub returns-clause-state : goal.returns-clause-state
returns-clause-state g c = advanced_state (advancing g (goal.at.returns-clause-state g c).After-is_some-progress)
