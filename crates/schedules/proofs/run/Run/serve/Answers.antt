use Rattle.std.proofs.Common.{arith}
use Rattle.tables.proofs.Counted.{tasks_few}
use Rattle.schedules.proofs.Served.{Gathered, served_within, served_has_units, served_front}
use Rattle.schedules.proofs.run.Run.serve.Given.{Over}
use Rattle.schedules.proofs.run.Run.serve.Goals as goal
use Rattle.schedules.proofs.run.Run.serve.Goals.{In_ok-task}

gathered : (g : Over) (c : In_ok-task g)
    → Gathered (g.O.Ordering.ahead c.args.self.now.ordering.now) c.len-n.result c.args.self.now.progress.slots c.gather-count.new.ready c.gather-count.result c.in_ok-task.field-0.now
gathered g c =
    let s = c.args.self.now in
    record {
      few = let few = tasks_few s.table.now in let wide = s.wide in omega arith;
      gathered = c.gather-count.ensures.jobs;
      is_first = c.in_ok-task.ensures.value;
    }

pub bounds-self-task : goal.bounds-self-task
bounds-self-task g c = let h = served_within (gathered g (goal.at.bounds-self-task g c).In_ok-task) in let few = tasks_few c.args.self.now.table.now in omega arith

pub overflow_sub-self : goal.overflow_sub-self
overflow_sub-self g c = served_has_units (gathered g (goal.at.overflow_sub-self g c).In_ok-task)

pub bounds-self-task-2 : goal.bounds-self-task-2
bounds-self-task-2 g c = let h = served_within (gathered g (goal.at.bounds-self-task-2 g c).In_ok-task) in let few = tasks_few c.args.self.now.table.now in omega arith

pub returns-clause-slots : goal.returns-clause-slots
returns-clause-slots g c = rw (← c.len-n.ensures) (served_front (gathered g (goal.at.returns-clause-slots g c).In_ok-task))
