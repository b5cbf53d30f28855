use Rattle.std.proofs.Common.{◌≡◌, ◌+◌, get_or, take, ◌++◌, ◌∷◌, [], sym, ap, ◌∙◌, subst, arith}
use Rattle.std.proofs.lemmas.Grind.{common_steps}
use Rattle.bounded.specs.Lists.{items_of}
use Rattle.tables.specs.Tasks.{nobody}
use Rattle.viability.specs.TaskSets.{members_of}
use Rattle.viability.proofs.Others.{OthersBelow, other_pushed, other_passed_by}
use Rattle.viability.proofs.task_set.TaskSet.others.Goals as goal
use Rattle.viability.proofs.task_set.TaskSet.others.Goals.{then-has+then-j-i, else-has, else-has-via-then-has+else-j-i, else-has-via-else-has}

pub loop-j-preserved : goal.loop-j-preserved
loop-j-preserved c =
    let ts = c.args.self.now.tasks.now in
    let members = members_of c.args.self.now in
    let j = c.loop-j.j in
    let Below = OthersBelow ts members c.args.i (j + 1) in
    let kept = other_passed_by ts members c.args.i j (items_of c.loop-j.found) c.loop-j.invariant in
    let h = c.has.ensures in
    elim c.if-has.branch [
      | then-has+then-j-i w ↦
          let a = w.if-has.true in
          let b = w.if-j-i.true in
          let few = c.args.self.now.few in
          let l = c.loop-j-test.true in
          let more = other_pushed ts members c.args.i j (items_of c.loop-j.found) c.loop-j.invariant (omega arith) (grind (arith, common_steps)) (c.args.self.now.timed j l) in
          let e : take 32 (items_of c.loop-j.found ++ get_or ts j nobody ∷ []) ≡ items_of c.if-has.found = sym w.push.ensures.items_after ∙ ap items_of (sym w.found-is) in
          subst Below e more
      | else-has w ↦
          let e : items_of c.loop-j.found ≡ items_of c.if-has.found = ap items_of (sym w.found-is) in
          elim w.else-has.branch [
            | else-has-via-then-has+else-j-i w' ↦
                let b = w'.if-j-i.false in
                subst Below e (kept (grind (arith, common_steps)))
            | else-has-via-else-has w' ↦
                let a = w'.if-has.false in
                subst Below e (kept (grind (arith, common_steps)))
          ]
    ]
