use Rattle.std.proofs.Common.{◌≡◌, rules, length, take, Some}
use Rattle.std.specs.List.{slice_get}
use Rattle.tables.specs.Tables.{tasks_of}
use Rattle.tables.proofs.Counted.{tasks_few}
use Rattle.schedules.proofs.Finished.{finish_done}
use Rattle.schedules.proofs.run.Run.finish_early.Goals as goal

pub returns-clause-after : goal.returns-clause-after
returns-clause-after g c =
    let s = c.args.self.now in
    let ts = tasks_of s.table.now in
    let here : slice_get (take (length ts) s.progress.slots) c.args.i ≡ Some c.in_ok-slot.slot = search rules in
    finish_done ts s.progress (tasks_few s.table.now) s.wide c.if-self.false c.args.i c.in_ok-slot.slot here c.if-slot-eq0.false
