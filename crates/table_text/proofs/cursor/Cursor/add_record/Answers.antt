use Rattle.std.proofs.Common.{ap, ◌∙◌}
use Rattle.std.specs.Result.{is_ok}
use Rattle.tables.specs.Tables.{tasks_of}
use Rattle.table_text.proofs.Nexts.{one_longer}
use Rattle.table_text.proofs.cursor.Cursor.add_record.Goals as goal

pub returns-clause-one_more : goal.returns-clause-one_more
returns-clause-one_more c =
    let added = c.in_ok-map_err.ensures.variant ∙ ap is_ok c.add.ensures.answer in
    one_longer (tasks_of c.args.table.now) (tasks_of c.add.new.self) c.in_ok-task.task added c.add.ensures.tasks_after
