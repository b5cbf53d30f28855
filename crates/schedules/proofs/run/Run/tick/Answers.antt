use Rattle.std.proofs.Common.{◌≡◌, map, length, take, ap, ◌∙◌}
use Rattle.tables.specs.Tables.{tasks_of}
use Rattle.tables.proofs.Counted.{tasks_few}
use Rattle.schedules.specs.Units.{older, missed}
use Rattle.schedules.specs.Runs.{unit_end}
use Rattle.schedules.specs.Views.{state_of_run}
use Rattle.schedules.proofs.Misses.{missed_lowest}
use Rattle.schedules.proofs.Picks.{picked_ahead}
use Rattle.schedules.proofs.Viewed.{counted}
use Rattle.schedules.proofs.run.Run.tick.Goals as goal

pub returns-clause-serves_the_job_ahead_of_all_ready : goal.returns-clause-serves_the_job_ahead_of_all_ready
returns-clause-serves_the_job_ahead_of_all_ready g c =
    let s = c.args.self.now in
    let t = s.table.now in
    let o = s.ordering.now in
    let ready = counted (record { few = tasks_few t; timed = t.timed; wide = s.wide; young = s.young; on = c.if-self.false }) in
    rw c.serve-ran.ensures.ran
    (picked_ahead (g.O.Ordering.ahead o) (g.met.O.Ordering.exclusive o) (g.met.O.Ordering.transitive o) (take (length (tasks_of t)) s.progress.slots) ready)

pub returns-clause-names_the_lowest_late_task : goal.returns-clause-names_the_lowest_late_task
returns-clause-names_the_lowest_late_task g c =
    let s = c.args.self.now in
    let ts = tasks_of s.table.now in
    let end = unit_end (g.O.Ordering.ahead s.ordering.now) (take (length ts) s.progress.slots) in
    let e : c.advance-miss.result ≡ missed ts end =
    c.advance-miss.ensures.miss
    ∙ ap (λ t. missed (tasks_of t.now) (map older (state_of_run c.serve-ran.new.self).slots)) c.serve-ran.ensures.keeps_table
    ∙ ap (λ l. missed ts (map older l)) c.serve-ran.ensures.slots in
    rw e (missed_lowest ts end)
