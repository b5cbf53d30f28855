use Rattle.std.proofs.Common.{[], fold, ap, ◌∙◌}
use Rattle.tables.specs.Adding.{tasks_after_adding}
use Rattle.examples.proofs.Lists.{three}
use Rattle.examples.proofs.Worked.{made_M}
use Rattle.examples.proofs.small_tables.m.Goals as goal

pub returns : goal.returns
returns c = c.table_of.ensures ∙ ap (fold tasks_after_adding []) (three c.task.result c.task-2.result c.task-3.result _ _ _ c.task.ensures c.task-2.ensures c.task-3.ensures) ∙ made_M
