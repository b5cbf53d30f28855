use Rattle.std.proofs.Common.{sym, refl, ap, ◌∙◌}
use Rattle.std.specs.Option.{ok_or}
use Rattle.desk.specs.declared.naming.Base.TheVariants.{Fixed}
use Rattle.desk.specs.declared.naming.Named.TheVariants.{Plain}
use Rattle.desk.specs.declared.commands.Expected.TheVariants.{AnOrdering}
use Rattle.desk.specs.Words.{named_of}
use Rattle.desk.proofs.Names.{here, behind, nowhere}
use Rattle.desk.proofs.words.NamedFromStr.from_str.Goals as goal

pub loop-named-init : goal.loop-named-init
unfolding named_of
loop-named-init c = refl

pub loop-named-preserved : goal.loop-named-preserved
loop-named-preserved c =
    c.loop-named.invariant
    ∙ behind c.args.word.now c.name.result.now c.loop-named.named-index (Plain Fixed) c.eq.result c.loop-named-test.true c.eq.ensures c.name.ensures c.if-eq.false

pub returns-then-eq : goal.returns-then-eq
returns-then-eq c =
    sym (ap (λ o. ok_or o AnOrdering) (c.loop-named.invariant
    ∙ here c.args.word.now c.name.result.now c.loop-named.named-index (Plain Fixed) c.eq.result c.loop-named-test.true c.eq.ensures c.name.ensures c.if-eq.true))

pub returns : goal.returns
returns c = sym (ap (λ o. ok_or o AnOrdering) (c.loop-named.invariant ∙ nowhere c.args.word.now c.loop-named.named-index c.loop-named-test.false))
