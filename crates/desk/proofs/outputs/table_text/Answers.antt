use Rattle.std.proofs.Common.{◌-◌, [], take, replicate, ap, ◌∙◌, arith}
use Rattle.tables.specs.Tables.{tasks_of}
use Rattle.table_text.specs.Written.{table_text}
use Rattle.texts.specs.Texts.{pushed}
use Rattle.texts.proofs.Pushed.{pushed_all}
use Rattle.desk.proofs.Fitting.{text_short, fits_blank, not_refused, front_is}
use Rattle.desk.proofs.outputs.table_text.Goals as goal

pub unreachable-requires : goal.unreachable-requires
unreachable-requires c =
    let t = c.args.table.now in
    not_refused (table_text (tasks_of t)) (replicate 4096 0) (fits_blank t) c.in-Err.field-0 c.in-Err.ensures.answer

pub returns : goal.returns
returns c =
    let t = c.args.table.now in
    let short = text_short t in
    c.push_bytes.ensures
    ∙ ap (λ l. pushed 4352 l (take (c.in-Ok.n - 0) c.write.new.out)) c.new-page.ensures
    ∙ ap (pushed 4352 []) (front_is (table_text (tasks_of t)) (replicate 4096 0) (fits_blank t) c.write.new.out c.in-Ok.n c.in-Ok.ensures.answer c.in-Ok.ensures.buffer_after)
    ∙ pushed_all 4352 [] (table_text (tasks_of t)) (omega arith)
