use Rattle.std.proofs.Common.{◌≤◌, [], ◌∷◌, length, decimal, sym, ap, ◌∙◌, subst, arith}
use Rattle.std.proofs.lemmas.Fmt.{length-decimal-le}
use Rattle.texts.specs.Texts.{bytes_of, pushed}
use Rattle.texts.proofs.Pushed.{pushed_then}
use Rattle.answers.specs.Texts.{column}
use Rattle.answers.proofs.printing.push_column.Goals as goal

pub returns-in-Some : goal.returns-in-Some
returns-in-Some c =
    let old = bytes_of c.args.line.now in
    let v = c.in-Some.v in
    let l : length (decimal v) ≤ 10 = length-decimal-le 10 v (omega arith) (omega arith) (omega arith) in
    record {
      after = c.push_number.ensures ∙ ap (λ r. pushed 160 r (decimal v)) c.push.ensures ∙ pushed_then 160 old (44 ∷ []) (decimal v) ∙ ap (λ o. pushed 160 old (column o)) (sym c.in-Some.is);
      short = subst (λ o. length (column o) ≤ 11) (sym c.in-Some.is) (omega arith);
    }
