use Rattle.std.proofs.Common.{◌≤◌, [], ◌∷◌, ◌++◌, length, ap, ◌∙◌, arith}
use Rattle.std.proofs.lemmas.List.{length-append}
use Rattle.texts.specs.Texts.{bytes_of, pushed}
use Rattle.texts.proofs.Pushed.{pushed_next, pushed_all}
use Rattle.answers.specs.Texts.{columns_of, columns_text}
use Rattle.desk.specs.Words.{named_text}
use Rattle.desk.specs.Printed.{verdict_record}
use Rattle.desk.proofs.Lengths.{name_short}
use Rattle.desk.proofs.printing.verdict_line.Goals as goal

pub returns : goal.returns
unfolding verdict_record
returns c =
    let name = named_text c.args.named in
    let text = columns_text (columns_of c.args.answer.now) in
    let p = c.push_record in
    let b1 = bytes_of c.push_bytes.new.self in
    let b2 = bytes_of c.push.new.self in
    let last = bytes_of p.new.line in
    let short : length (name ++ (44 ∷ text)) ≤ 101 = simp length-append (omega (arith, p.ensures.short, name_short c.args.named)) in
    record {
      bytes = pushed_next 160 [] b1 last name (44 ∷ text)
          (c.push_bytes.ensures ∙ ap (pushed 160 _) (c.as_bytes.ensures.value ∙ c.name.ensures) ∙ ap (λ l. pushed 160 l name) c.new-line.ensures)
          (pushed_next 160 b1 b2 last (44 ∷ []) text c.push.ensures p.ensures.after)
          ∙ pushed_all 160 [] (name ++ (44 ∷ text)) (omega arith);
      short = short;
    }
