use Rattle.std.proofs.Common.{[], ◌++◌, ap, ◌∙◌, arith}
use Rattle.std.proofs.lemmas.List.{length-append}
use Rattle.texts.specs.Texts.{bytes_of, pushed}
use Rattle.texts.proofs.Pushed.{pushed_next, pushed_all}
use Rattle.desk.specs.Printed.{verdict_header, verdict_record, verdict_text}
use Rattle.desk.proofs.outputs.verdict_text.Goals as goal

pub returns : goal.returns
unfolding verdict_text
returns c =
    let a = c.judge_under-answer.result in
    let n = c.args.named in
    let short = c.verdict_line.ensures.short in
    pushed_next 4352 [] (bytes_of c.push_bytes.new.self) (bytes_of c.push_bytes-2.new.self) verdict_header (verdict_record n a)
    (c.push_bytes.ensures ∙ ap (λ l. pushed 4352 l verdict_header) c.new-page.ensures)
    (c.push_bytes-2.ensures ∙ ap (pushed 4352 (bytes_of c.push_bytes.new.self)) (c.bytes.ensures ∙ c.verdict_line.ensures.bytes))
    ∙ pushed_all 4352 [] (verdict_header ++ verdict_record n a) (simp length-append (omega arith))
    ∙ ap (λ x. verdict_header ++ verdict_record n x) c.judge_under-answer.ensures.value
