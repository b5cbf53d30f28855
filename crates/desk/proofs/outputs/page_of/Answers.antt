use Rattle.std.proofs.Common.{[], ap, ◌∙◌, arith}
use Rattle.texts.specs.Texts.{bytes_of, pushed}
use Rattle.texts.proofs.Pushed.{length_bytes, pushed_all}
use Rattle.desk.proofs.outputs.page_of.Goals as goal

pub returns : goal.returns
returns c =
    let l = c.args.line.now in
    let n = length_bytes l in
    let w = l.list.within in
    c.push_bytes.ensures
    ∙ ap (λ x. pushed 4352 x c.bytes.result.now) c.new-page.ensures
    ∙ ap (pushed 4352 []) c.bytes.ensures
    ∙ pushed_all 4352 [] (bytes_of l) (omega arith)
