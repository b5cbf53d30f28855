use Rattle.std.proofs.Common.{rules, ◌≡◌, [], ◌++◌, Some, codes, ap, ◌∙◌, arith}
use Rattle.std.proofs.lemmas.List.{length-append}
use Rattle.refusals.specs.Numbers.{number_of, task_of}
use Rattle.texts.specs.Texts.{bytes_of, pushed}
use Rattle.texts.proofs.Pushed.{pushed_next, pushed_all}
use Rattle.answers.specs.Texts.{line_end, column}
use Rattle.desk.specs.Printed.{row_of, field_of, refused_header, refused_record, refused_text}
use Rattle.desk.proofs.printing.refused_line.Goals as goal

pub returns : goal.returns
unfolding refused_record refused_text
returns c =
    let e = c.args.refusal.now in
    let h = c.push_bytes in
    let w = c.push_bytes-2 in
    let p1 = c.push_column in
    let p2 = c.push_column-2 in
    let p3 = c.push_column-3 in
    let p4 = c.push_column-4 in
    let b0 = bytes_of h.new.self in
    let b1 = bytes_of w.new.self in
    let b2 = bytes_of p1.new.line in
    let b3 = bytes_of p2.new.line in
    let b4 = bytes_of p3.new.line in
    let b5 = bytes_of p4.new.line in
    let last = bytes_of c.push_bytes-3.new.self in
    let c1 = column c.task.result in
    let c2 = column (Some c.number.result) in
    let c3 = column c.map.result in
    let c4 = column c.map-2.result in
    let row : c.map.result ≡ row_of e = search rules in
    let field : c.map-2.result ≡ field_of e = search rules in
    let text = refused_header ++ (codes "refused" ++ (c1 ++ (c2 ++ (c3 ++ (c4 ++ line_end))))) in
    pushed_next 160 [] b0 last refused_header _ (h.ensures ∙ ap (λ l. pushed 160 l refused_header) c.new-line.ensures)
    (pushed_next 160 b0 b1 last (codes "refused") _ w.ensures
    (pushed_next 160 b1 b2 last c1 _ p1.ensures.after
    (pushed_next 160 b2 b3 last c2 _ p2.ensures.after
    (pushed_next 160 b3 b4 last c3 _ p3.ensures.after
    (pushed_next 160 b4 b5 last c4 line_end p4.ensures.after c.push_bytes-3.ensures)))))
    ∙ pushed_all 160 [] text (simp length-append (omega (arith, p1.ensures.short, p2.ensures.short, p3.ensures.short, p4.ensures.short)))
    ∙ ap (λ x. refused_header ++ (codes "refused" ++ (column x ++ (c2 ++ (c3 ++ (c4 ++ line_end)))))) c.task.ensures
    ∙ ap (λ x. refused_header ++ (codes "refused" ++ (column (task_of e) ++ (column (Some x) ++ (c3 ++ (c4 ++ line_end)))))) c.number.ensures
    ∙ ap (λ x. refused_header ++ (codes "refused" ++ (column (task_of e) ++ (column (Some (number_of e)) ++ (column x ++ (c4 ++ line_end)))))) row
    ∙ ap (λ x. refused_header ++ (codes "refused" ++ (column (task_of e) ++ (column (Some (number_of e)) ++ (column (row_of e) ++ (column x ++ line_end)))))) field
