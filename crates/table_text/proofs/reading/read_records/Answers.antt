use Rattle.std.proofs.Common.{◌≡◌, ◌+◌, ◌-◌, length, sym, ap, ◌∙◌, arith}
use Rattle.std.proofs.lemmas.Result.{err_from_is_err_and}
use Rattle.tables.specs.Tables.{tasks_of}
use Rattle.tables.proofs.Counted.{tasks_few}
use Rattle.table_text.specs.Records.{progress}
use Rattle.table_text.specs.Reading.{after_record, read_records}
use Rattle.table_text.proofs.Steps.{read_end, read_step}
use Rattle.table_text.proofs.reading.read_records.Goals as goal

pub returns-in_err-add_record : goal.returns-in_err-add_record
returns-in_err-add_record c =
    let text = c.loop-cursor.cursor.text.now in
    let at = c.loop-cursor.cursor.at in
    let ts = tasks_of c.loop-cursor.table in
    let few = tasks_few c.loop-cursor.table in
    let p = err_from_is_err_and c.from_residual.result c.from_residual.ensures.1 in
    let h = c.in_err-add_record.ensures in
    let s = read_step (33 - length ts) (32 - length ts) text (progress ts at) (omega arith) (grind arith) in
    rw (p.1, p.2) (ap (λ r. after_record r (read_records (32 - length ts) text)) h.value ∙ sym s ∙ c.loop-cursor.invariant)

pub loop-cursor-preserved : goal.loop-cursor-preserved
loop-cursor-preserved c =
    let text = c.loop-cursor.cursor.text.now in
    let at = c.loop-cursor.cursor.at in
    let ts = tasks_of c.loop-cursor.table in
    let us = tasks_of c.add_record.new.table in
    let few = tasks_few c.add_record.new.table in
    let h = c.in_ok-add_record.ensures in
    let more : length us ≡ length ts + 1 = h.one_more in
    let s = read_step (33 - length ts) (33 - length us) text (progress ts at) (omega arith) (grind arith) in
    ap (λ t. read_records (33 - length us) t (progress us c.add_record.new.self.at)) h.same_text
    ∙ ap (λ r. after_record r (read_records (33 - length us) text)) h.value ∙ sym s ∙ c.loop-cursor.invariant

pub returns : goal.returns
returns c =
    let ts = tasks_of c.loop-cursor.table in
    sym (read_end (33 - length ts) c.loop-cursor.cursor.text.now (progress ts c.loop-cursor.cursor.at) (grind arith)) ∙ c.loop-cursor.invariant
