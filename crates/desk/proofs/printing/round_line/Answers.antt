use Rattle.std.proofs.Common.{◌≡◌, ◌≤◌, [], ◌++◌, length, decimal, sym, ap, ◌∙◌, arith}
use Rattle.std.proofs.lemmas.Fmt.{length-decimal-le}
use Rattle.std.proofs.lemmas.List.{length-append}
use Rattle.texts.specs.Texts.{bytes_of, pushed}
use Rattle.texts.proofs.Pushed.{pushed_next, pushed_all}
use Rattle.answers.specs.Texts.{line_end, column}
use Rattle.desk.specs.Printed.{round_word, round_task, round_instant, round_record}
use Rattle.desk.proofs.Lengths.{round_word_short}
use Rattle.desk.proofs.printing.round_line.Goals.{in-Lowered, in-Held, in-Stuck}
use Rattle.desk.proofs.printing.round_line.Goals as goal

pub returns : goal.returns
unfolding round_record
returns c =
    let n = c.args.number in
    let r = c.args.round in
    let t = c.match-round.task in
    let told : (t.0.now ≡ round_word r) × ((t.1 ≡ round_task r) × (t.2 ≡ round_instant r)) = elim c.match-round.branch [
      | in-Lowered w ↦ let e = sym w.in-Lowered.is in
          (ap (λ x. x.0.now) w.task-is ∙ w.as_slice.ensures ∙ ap round_word e, (ap (λ x. x.1) w.task-is ∙ ap round_task e, ap (λ x. x.2) w.task-is ∙ ap round_instant e))
      | in-Held w ↦ let e = sym w.in-Held.is in
          (ap (λ x. x.0.now) w.task-is ∙ w.as_slice-in-Held.ensures ∙ ap round_word e, (ap (λ x. x.1) w.task-is ∙ ap round_task e, ap (λ x. x.2) w.task-is ∙ ap round_instant e))
      | in-Stuck w ↦ let e = sym w.in-Stuck.is in
          (ap (λ x. x.0.now) w.task-is ∙ w.as_slice-in-Stuck.ensures ∙ ap round_word e, (ap (λ x. x.1) w.task-is ∙ ap round_task e, ap (λ x. x.2) w.task-is ∙ ap round_instant e))
    ] in
    let p1 = c.push_column in
    let p2 = c.push_column-2 in
    let b0 = bytes_of c.push_number.new.self in
    let b1 = bytes_of c.push_bytes.new.self in
    let b2 = bytes_of p1.new.line in
    let b3 = bytes_of p2.new.line in
    let last = bytes_of c.push_bytes-2.new.self in
    let c1 = column t.1 in
    let c2 = column t.2 in
    let text = decimal n ++ (round_word r ++ (c1 ++ (c2 ++ line_end))) in
    let l : length (decimal n) ≤ 10 = length-decimal-le 10 n (omega arith) (omega arith) (omega arith) in
    let w = round_word_short r in
    pushed_next 160 [] b0 last (decimal n) _ (c.push_number.ensures ∙ ap (λ b. pushed 160 b (decimal n)) c.new-line.ensures)
    (pushed_next 160 b0 b1 last (round_word r) _ (c.push_bytes.ensures ∙ ap (pushed 160 b0) told.0)
    (pushed_next 160 b1 b2 last c1 _ p1.ensures.after
    (pushed_next 160 b2 b3 last c2 line_end p2.ensures.after c.push_bytes-2.ensures)))
    ∙ pushed_all 160 [] text (simp length-append (omega (arith, l, w, p1.ensures.short, p2.ensures.short)))
    ∙ ap (λ x. decimal n ++ (round_word r ++ (column x ++ (c2 ++ line_end)))) told.1.0
    ∙ ap (λ x. decimal n ++ (round_word r ++ (column (round_task r) ++ (column x ++ line_end)))) told.1.1
