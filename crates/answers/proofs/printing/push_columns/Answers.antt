use Rattle.std.proofs.Common.{◌≤◌, ◌++◌, length, ap, ◌∙◌, subst, arith}
use Rattle.std.proofs.lemmas.List.{length-append}
use Rattle.texts.specs.Texts.{bytes_of, pushed}
use Rattle.texts.proofs.Pushed.{pushed_next}
use Rattle.answers.specs.Texts.{word_text, column, columns_text, line_end}
use Rattle.answers.proofs.printing.push_columns.Goals as goal

pub returns : goal.returns
unfolding columns_text
returns c =
    let x = c.args.c.now in
    let w = c.push_bytes in
    let word = c.as_bytes.ensures.value ∙ c.text.ensures.bytes in
    let short : length (word_text x.word) ≤ 7 = subst (λ l. length l ≤ 7) c.text.ensures.bytes c.text.ensures.short in
    let p1 = c.push_column in
    let p2 = c.push_column-2 in
    let p3 = c.push_column-3 in
    let p4 = c.push_column-4 in
    let p5 = c.push_column-5 in
    let p6 = c.push_column-6 in
    let last = bytes_of c.push_bytes-2.new.self in
    let t6 = column x.field ++ line_end in
    let t5 = column x.row ++ t6 in
    let t4 = column x.refusal ++ t5 in
    let t3 = column x.hyperperiod ++ t4 in
    let t2 = column x.instant ++ t3 in
    let t1 = column x.task ++ t2 in
    record {
      after =
          pushed_next 160 (bytes_of c.args.line.now) (bytes_of w.new.self) last (word_text x.word) t1 (w.ensures ∙ ap (pushed 160 (bytes_of c.args.line.now)) word)
          (pushed_next 160 (bytes_of w.new.self) (bytes_of p1.new.line) last (column x.task) t2 p1.ensures.after
          (pushed_next 160 (bytes_of p1.new.line) (bytes_of p2.new.line) last (column x.instant) t3 p2.ensures.after
          (pushed_next 160 (bytes_of p2.new.line) (bytes_of p3.new.line) last (column x.hyperperiod) t4 p3.ensures.after
          (pushed_next 160 (bytes_of p3.new.line) (bytes_of p4.new.line) last (column x.refusal) t5 p4.ensures.after
          (pushed_next 160 (bytes_of p4.new.line) (bytes_of p5.new.line) last (column x.row) t6 p5.ensures.after
          (pushed_next 160 (bytes_of p5.new.line) (bytes_of p6.new.line) last (column x.field) line_end p6.ensures.after c.push_bytes-2.ensures))))));
      short = simp length-append (omega (arith, short, p1.ensures.short, p2.ensures.short, p3.ensures.short, p4.ensures.short, p5.ensures.short, p6.ensures.short));
    }
