use Rattle.std.proofs.Common.{◌≡◌, ap, ◌∙◌, subst}
use Rattle.tables.specs.Tables.{tasks_of}
use Rattle.orderings.specs.Fixed.{fixed}
use Rattle.schedules.specs.Schedule.{verdict_of, SaysOfEndless}
use Rattle.desk.specs.declared.naming.Base.{Base}
use Rattle.desk.specs.declared.naming.Base.TheVariants.{Fixed}
use Rattle.desk.specs.Meanings.{base_meaning, layered, lowest_of}
use Rattle.desk.proofs.judging.verdict_under.Goals as goal

pub returns-in-Fixed-clause-value : goal.returns-in-Fixed-clause-value
returns-in-Fixed-clause-value c =
    let ts = tasks_of c.args.table.now in
    let n = c.args.named in
    let low : ◌≡◌ {A = Base} Fixed (lowest_of n) = c.in-Fixed.ensures in
    c.verdict_over.ensures.value
    ∙ ap (λ u. verdict_of ts (layered ts n (fixed (tasks_of u)))) c.new.ensures
    ∙ ap (λ b. verdict_of ts (layered ts n (base_meaning ts b))) low

pub returns-in-Fixed-clause-says_of_the_endless_schedule : goal.returns-in-Fixed-clause-says_of_the_endless_schedule
returns-in-Fixed-clause-says_of_the_endless_schedule c =
    let ts = tasks_of c.args.table.now in
    let n = c.args.named in
    let low : ◌≡◌ {A = Base} Fixed (lowest_of n) = c.in-Fixed.ensures in
    subst (λ b. SaysOfEndless ts (layered ts n (base_meaning ts b)) c.verdict_over.result) low
    (subst (λ u. SaysOfEndless ts (layered ts n (fixed (tasks_of u))) c.verdict_over.result) c.new.ensures c.verdict_over.ensures.says_of_the_endless_schedule)
