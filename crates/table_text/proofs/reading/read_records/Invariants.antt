use Rattle.std.proofs.Common.{◌≡◌, ◌-◌, [], length}
use Rattle.tables.specs.Tables.{tasks_of}
use Rattle.table_text.specs.Records.{progress}
use Rattle.table_text.specs.Reading.{read_records}
use Rattle.table_text.proofs.reading.read_records.Given as goal

abbrev pub invariant-loop-cursor : goal.invariant-loop-cursor
invariant-loop-cursor l =
    read_records (33 - length (tasks_of l.table)) l.cursor.text.now (progress (tasks_of l.table) l.cursor.at)
    ≡ read_records 33 l.fn.cursor.text.now (progress [] l.fn.cursor.at)

abbrev pub decreases-loop-cursor : goal.decreases-loop-cursor
decreases-loop-cursor l = 33 - length (tasks_of l.table)
