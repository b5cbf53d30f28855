use Rattle.std.proofs.Common.{[], ◌∷◌, ◌++◌, ap, ◌∙◌, arith}
use Rattle.std.proofs.lemmas.List.{length-append}
use Rattle.texts.specs.Texts.{bytes_of, pushed}
use Rattle.texts.proofs.Pushed.{pushed_next, pushed_all}
use Rattle.table_text.specs.Written.{field_text, record_text}
use Rattle.table_text.proofs.writing.record_line.Goals as goal

pub returns : goal.returns
unfolding record_text
returns c =
    let x = c.args.x.now in
    let p1 = c.push_field in
    let p2 = c.push_field-2 in
    let p3 = c.push_field-3 in
    let p4 = c.push_field-4 in
    let p5 = c.push_field-5 in
    let p6 = c.push_field-6 in
    let last = bytes_of c.push.new.self in
    let t6 = field_text x.s 13 ++ (10 ∷ []) in
    let t5 = field_text x.p2 44 ++ t6 in
    let t4 = field_text x.p1 44 ++ t5 in
    let t3 = field_text x.t 44 ++ t4 in
    let t2 = field_text x.d 44 ++ t3 in
    record {
      bytes =
          pushed_next 160 [] (bytes_of p1.new.line) last (field_text x.c 44) t2 (p1.ensures.after ∙ ap (λ l. pushed 160 l (field_text x.c 44)) c.new-line.ensures)
          (pushed_next 160 (bytes_of p1.new.line) (bytes_of p2.new.line) last (field_text x.d 44) t3 p2.ensures.after
          (pushed_next 160 (bytes_of p2.new.line) (bytes_of p3.new.line) last (field_text x.t 44) t4 p3.ensures.after
          (pushed_next 160 (bytes_of p3.new.line) (bytes_of p4.new.line) last (field_text x.p1 44) t5 p4.ensures.after
          (pushed_next 160 (bytes_of p4.new.line) (bytes_of p5.new.line) last (field_text x.p2 44) t6 p5.ensures.after
          (pushed_next 160 (bytes_of p5.new.line) (bytes_of p6.new.line) last (field_text x.s 13) (10 ∷ []) p6.ensures.after c.push.ensures)))))
          ∙ pushed_all 160 [] (field_text x.c 44 ++ t2) (simp length-append (omega (arith, p1.ensures.short, p2.ensures.short, p3.ensures.short, p4.ensures.short, p5.ensures.short, p6.ensures.short)));
      short = simp length-append (omega (arith, p1.ensures.short, p2.ensures.short, p3.ensures.short, p4.ensures.short, p5.ensures.short, p6.ensures.short));
    }
