use Rattle.std.proofs.Common.{[], fold, ap, ◌∙◌}
use Rattle.tables.specs.Adding.{tasks_after_adding}
use Rattle.examples.proofs.Lists.{two}
use Rattle.examples.proofs.Worked.{made_K}
use Rattle.examples.proofs.small_tables.k.Goals as goal

pub returns : goal.returns
returns c = c.table_of.ensures ∙ ap (fold tasks_after_adding []) (two c.task.result c.task-2.result _ _ c.task.ensures c.task-2.ensures) ∙ made_K
