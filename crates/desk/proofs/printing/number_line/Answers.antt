use Rattle.std.proofs.Common.{◌≤◌, [], ◌++◌, length, decimal, ap, ◌∙◌, arith}
use Rattle.std.proofs.lemmas.Fmt.{length-decimal-le}
use Rattle.std.proofs.lemmas.List.{length-append}
use Rattle.texts.specs.Texts.{bytes_of, pushed}
use Rattle.texts.proofs.Pushed.{pushed_next, pushed_all}
use Rattle.answers.specs.Texts.{line_end}
use Rattle.desk.proofs.printing.number_line.Goals as goal

pub returns : goal.returns
returns c =
    let v = c.args.number in
    let l : length (decimal v) ≤ 10 = length-decimal-le 10 v (omega arith) (omega arith) (omega arith) in
    let short : length (decimal v ++ line_end) ≤ 12 = simp length-append (omega arith) in
    record {
      bytes = pushed_next 160 [] (bytes_of c.push_number.new.self) (bytes_of c.push_bytes.new.self) (decimal v) line_end
          (c.push_number.ensures ∙ ap (λ b. pushed 160 b (decimal v)) c.new-line.ensures) c.push_bytes.ensures
          ∙ pushed_all 160 [] (decimal v ++ line_end) (omega arith);
      short = short;
    }
