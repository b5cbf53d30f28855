use Rattle.std.proofs.Common.{false, refl, ap}
use Rattle.tables.specs.Tables.{tasks_of}
use Rattle.tables.proofs.Counted.{tasks_few}
use Rattle.schedules.proofs.Viewed.{new_state}
use Rattle.schedules.proofs.run.Run.new.Goals as goal

pub returns : goal.returns
returns g c =
    let t = c.args.table.now in
    record {
      state = ap (λ ss. record { slots = ss; ended = false }) (new_state (tasks_of t) c.tasks.result.now c.fill.new.slots c.tasks.ensures (tasks_few t) c.fill.auto.slots c.fill.ensures);
      keeps_table = refl;
      keeps_ordering = refl;
    }
