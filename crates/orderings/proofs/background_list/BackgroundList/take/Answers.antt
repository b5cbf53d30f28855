use Rattle.std.proofs.Common.{◌≡◌, false, [], ◌∷◌, ◌++◌, is_some, sym, ap, ◌∙◌, subst, arith}
use Rattle.std.proofs.lemmas.Bool.{cond-true}
use Rattle.bounded.proofs.Held.{all_pushed}
use Rattle.orderings.specs.Places.{NoneTwice, place_in}
use Rattle.orderings.specs.BackgroundList.{numbers_of}
use Rattle.orderings.specs.Placed.{none_twice_push, takes_new}
use Rattle.orderings.proofs.background_list.BackgroundList.take.Goals as goal

pub invariant_of-self : goal.invariant_of-self
invariant_of-self c =
    let l = c.args.self.now in
    let n = c.args.number in
    let more = c.push.ensures.items_after ∙ all_pushed l.places n (omega arith) in
    let new : is_some (place_in (numbers_of l) n) ≡ false = sym (ap is_some c.place.ensures) ∙ sym c.if-is_some.ensures in
    record { distinct = subst NoneTwice (sym more) (none_twice_push (numbers_of l) n l.distinct new) }

pub returns-clause-numbers_after : goal.returns-clause-numbers_after
returns-clause-numbers_after c =
    let l = c.args.self.now in
    let n = c.args.number in
    let more = c.push.ensures.items_after ∙ all_pushed l.places n (omega arith) in
    let new : is_some (place_in (numbers_of l) n) ≡ false = sym (ap is_some c.place.ensures) ∙ sym c.if-is_some.ensures in
    more ∙ sym (cond-true _ (numbers_of l ++ n ∷ []) (numbers_of l) (takes_new (numbers_of l) n (omega arith) new))
