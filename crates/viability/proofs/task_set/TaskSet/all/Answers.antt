use Rattle.std.proofs.Common.{true, length, take, refl, ap, ◌∙◌}
use Rattle.std.proofs.lemmas.List.{take-replicate}
use Rattle.std.proofs.lemmas.Simd.{splat_is_map}
use Rattle.tables.specs.Tables.{tasks_of}
use Rattle.tables.proofs.Counted.{tasks_few}
use Rattle.viability.proofs.task_set.TaskSet.all.Goals as goal

pub returns-clause-members : goal.returns-clause-members
returns-clause-members c =
    let ts = tasks_of c.args.table.now in
    ap (λ us. take (length us) c.of.result.flags) c.of.ensures.of_table ∙ ap (take (length ts)) c.of.ensures.flagged
    ∙ take-replicate (length ts) 32 true (tasks_few c.args.table.now) ∙ splat_is_map ts (length ts) true refl
