use Rattle.std.proofs.Common.{ap, ◌∙◌}
use Rattle.std.proofs.lemmas.List.{take_all}
use Rattle.texts.specs.Texts.{bytes_of, pushed}
use Rattle.texts.proofs.Pushed.{pushed_none, pushed_more}
use Rattle.texts.proofs.text.Text.push_bytes.Goals as goal

pub loop-b-init : goal.loop-b-init
loop-b-init g c = pushed_none c.args.self.now

pub loop-b-preserved : goal.loop-b-preserved
loop-b-preserved g c =
    pushed_more g.row.N (bytes_of c.args.self.now) c.args.bytes.now (bytes_of c.loop-b.self) (bytes_of c.push.new.self) c.loop-b.b-index
    c.loop-b-test.true c.loop-b.invariant c.push.ensures

pub returns : goal.returns
returns g c = c.loop-b.invariant ∙ ap (pushed g.row.N (bytes_of c.args.self.now)) (take_all c.loop-b.b-index c.args.bytes.now c.loop-b-test.false)
