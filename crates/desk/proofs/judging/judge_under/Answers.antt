use Rattle.std.proofs.Common.{subst, sym}
use Rattle.tables.specs.Tables.{tasks_of}
use Rattle.table_text.specs.Reading.{read_table}
use Rattle.answers.proofs.Readings.{read_done}
use Rattle.desk.specs.Verdicts.{TrueUnder}
use Rattle.desk.proofs.judging.judge_under.Goals as goal

pub returns-clause-true_of_the_endless_schedule : goal.returns-clause-true_of_the_endless_schedule
returns-clause-true_of_the_endless_schedule c =
    let ts = tasks_of c.read.new.target in
    let read = c.in_ok-read.ensures in
    let says = c.verdict_under.ensures.says_of_the_endless_schedule in
    subst (TrueUnder c.args.named c.args.text.now) (sym c.answer_by.ensures)
    (ts, read_done (read_table c.args.text.now) _ _ ts read.answer read.tasks_after, says, c.hyperperiod.ensures.least_common_multiple)
