use Rattle.std.proofs.Common.{subst, sym}
use Rattle.tables.specs.Tables.{tasks_of}
use Rattle.table_text.specs.Reading.{read_table}
use Rattle.orderings.specs.TwoPhase.{two_phase}
use Rattle.schedules.specs.Schedule.{SaysOfEndless}
use Rattle.answers.specs.Answers.{TrueOf}
use Rattle.answers.proofs.Readings.{read_done}
use Rattle.answers.proofs.judging.judge.Goals as goal

-- the ordering is made of the table that was read
pub returns-clause-true_of_the_endless_schedule : goal.returns-clause-true_of_the_endless_schedule
returns-clause-true_of_the_endless_schedule c =
    let ts = tasks_of c.read.new.target in
    let read = c.in_ok-read.ensures in
    let says = subst (λ t. SaysOfEndless ts (two_phase (tasks_of t)) c.of.result) c.new-ordering.ensures c.of.ensures.says_of_the_endless_schedule in
    subst (TrueOf c.args.text.now) (sym c.answer_by.ensures)
    (ts, read_done (read_table c.args.text.now) _ _ ts read.answer read.tasks_after, says, c.hyperperiod.ensures.least_common_multiple)
