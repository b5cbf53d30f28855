use Rattle.std.proofs.Common.{rules, ap, ◌∙◌, sym, subst}
use Rattle.firsts.specs.First.{IsFirst}
use Rattle.firsts.proofs.Firsts.{first_leads, first_reduced}
use Rattle.firsts.proofs.order.first.Goals as goal

pub returns : goal.returns
returns g c =
    let lt = g.R.Order.precedes c.args.order.now in
    let xs = c.args.items.now in
    let run = c.reduce.ensures.runs in
    let lent = (c.iter.ensures.runs run.0 run.0.seen).4 run.2 ∙ ap (λ i. i.rest.now) run.1 ∙ c.iter.ensures.rest in
    let value = first_reduced lt xs _ _ c.reduce.result run.0.len run.0.items run.0.long lent run.3 (search rules) in
    record { value = value; precedes_all_others = λ apart ex tr. subst (IsFirst lt xs) (sym value) (first_leads lt xs apart ex tr) }
