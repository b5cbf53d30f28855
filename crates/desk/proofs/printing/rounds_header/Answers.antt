use Rattle.std.proofs.Common.{[], ap, ◌∙◌, lit≤}
use Rattle.texts.specs.Texts.{pushed}
use Rattle.texts.proofs.Pushed.{pushed_all}
use Rattle.desk.specs.Printed.{rounds_header}
use Rattle.desk.proofs.printing.rounds_header.Goals as goal

pub returns : goal.returns
returns c = c.push_bytes.ensures ∙ ap (λ b. pushed 160 b rounds_header) c.new-line.ensures ∙ pushed_all 160 [] rounds_header (lit≤ tt)
