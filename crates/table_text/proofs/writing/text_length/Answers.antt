use Rattle.std.proofs.Common.{length, ap, ◌∙◌, arith}
use Rattle.table_text.proofs.Texts.{length_records_more, length_records_all}
use Rattle.table_text.proofs.writing.text_length.Goals as goal

pub loop-x-preserved : goal.loop-x-preserved
loop-x-preserved c =
    let e = length_records_more c.args.tasks.now c.loop-x.x-index (omega arith) in
    let l = ap length (c.bytes.ensures ∙ c.record_line.ensures.bytes) in
    let s = c.record_line.ensures.short in
    (omega arith, omega arith)

pub returns : goal.returns
returns c =
    let e = length_records_all c.args.tasks.now c.loop-x.x-index (omega arith) in
    record { value = omega arith; bound = omega arith }
