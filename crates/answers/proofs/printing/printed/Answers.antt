use Rattle.std.proofs.Common.{[], ◌++◌, ap, ◌∙◌, arith}
use Rattle.std.proofs.lemmas.List.{length-append}
use Rattle.texts.specs.Texts.{bytes_of, pushed}
use Rattle.texts.proofs.Pushed.{pushed_next, pushed_all}
use Rattle.answers.specs.Texts.{header_text, columns_of, columns_text}
use Rattle.answers.proofs.printing.printed.Goals as goal

pub returns : goal.returns
returns c =
    let text = columns_text (columns_of c.args.answer.now) in
    let p = c.push_record in
    pushed_next 160 [] (bytes_of c.push_bytes.new.self) (bytes_of p.new.line) header_text text
    (c.push_bytes.ensures ∙ ap (λ l. pushed 160 l header_text) c.new-line.ensures) p.ensures.after
    ∙ pushed_all 160 [] (header_text ++ text) (simp length-append (omega (arith, p.ensures.short)))
