use Rattle.std.proofs.Common.{◌≡◌, ◌+◌, ◌<◌, ◌∷◌, ◌++◌, [], length, Some, sym, ap, ◌∙◌, subst, arith}
use Rattle.std.proofs.lemmas.Bool.{cond-true}
use Rattle.tables.specs.Tables.{tasks_of}
use Rattle.tables.proofs.Counted.{tasks_few}
use Rattle.orderings.specs.BackgroundList.{numbers_of}
use Rattle.viability.specs.TaskSets.{members_of}
use Rattle.viability.specs.OwnList.{next_taken, without}
use Rattle.viability.proofs.Owned.{next_is}
use Rattle.viability.proofs.Taking.{Taking, taking_takes, taking_more}
use Rattle.viability.proofs.own_list.own_background_list.Goals as goal

pub remove-requires : goal.remove-requires
remove-requires c =
    let set = c.loop.left in
    let low = (next_is set.tasks.now (members_of set) c.in-Some.x (sym c.in-Some.ensures)).0 in
    low

pub loop-preserved : goal.loop-preserved
loop-preserved c =
    let t = c.args.table.now in
    let ts = tasks_of t in
    let set = c.loop.left in
    let ms = members_of set in
    let xs = numbers_of c.loop.list in
    let x = c.in-Some.x in
    let more : c.loop.counter < length ts = omega arith in
    let next : next_taken ts ms ≡ Some x = ap (λ us. next_taken us ms) (sym c.loop.invariant.0) ∙ sym c.in-Some.ensures in
    let written : numbers_of c.take.new.self ≡ xs ++ x.task ∷ [] =
    c.take.ensures.numbers_after ∙ cond-true _ (xs ++ x.task ∷ []) xs (taking_takes c.loop.invariant.1 x next more (tasks_few t)) in
    let one_more : Taking ts (without ms x.task) (xs ++ x.task ∷ []) (c.loop.counter + 1) = taking_more c.loop.invariant.1 x next more in (
      c.remove.ensures.same_tasks ∙ c.loop.invariant.0,
      subst (λ ys. Taking ts (members_of c.remove.new.self) ys (c.loop.counter + 1)) (sym written)
          (subst (λ ms. Taking ts ms (xs ++ x.task ∷ []) (c.loop.counter + 1)) (sym c.remove.ensures.members) one_more),
    )
