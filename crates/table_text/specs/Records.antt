-- A record of a table text: six fields, which are one task.
use Rattle.std.specs.Prelude.{ℕ, ◌+◌, List, length, drop, Some, None, Ok, Err, Option, Result}
use Rattle.refusals.specs.declared.kinds.AddRefusal.{AddRefusal}
use Rattle.refusals.specs.declared.kinds.FieldFault.{FieldFault}
use Rattle.refusals.specs.declared.kinds.RecordFault.{RecordFault}
use Rattle.refusals.specs.declared.kinds.RecordFault.TheVariants as fault
use Rattle.tables.specs.declared.task.Task.{Task}
use Rattle.tables.specs.Adding.{add_answer, tasks_after_adding}
use Rattle.table_text.specs.Fields.{Field, field_at}
use Rattle.table_text.specs.Separators.{past_separator}

-- the first fault ends a reading
abbrev pub and_then : {A B E : Type 0} → Result A E → (A → Result B E) → Result B E
and_then (Ok x) f = f x
and_then (Err e) f = Err e

-- a record's task, and the place behind the record's end
pub record TaskRecord : Type 0 where
  pub task : Task
  pub end : ℕ

-- where the right separator does not follow a field, the record has another shape
abbrev pub ended_by : ℕ → ℕ → Option ℕ → Result Field RecordFault
ended_by row v None = Err (fault.Shape row)
ended_by row v (Some end) = Ok (record { value = v; end = end })

-- a field is checked first, and then what follows it
abbrev pub field_then_end : List ℕ → ℕ → ℕ → Result Field FieldFault → Result Field RecordFault
field_then_end text row k (Err e) = Err (fault.Field e)
field_then_end text row k (Ok f) = ended_by row f.value (past_separator k f.end (drop f.end text))

-- the field at the place `at`, with what follows it
abbrev pub ended_field_at : List ℕ → ℕ → ℕ → ℕ → Result Field RecordFault
ended_field_at text at row k = field_then_end text row k (field_at text at row k)

-- the record at the place `at`: the fields C, D, T, P1, P2 and S, of which the first fault from the left is the record's
abbrev pub record_at : List ℕ → ℕ → ℕ → Result TaskRecord RecordFault
record_at text at row =
    and_then (ended_field_at text at row 1) (λ c.
    and_then (ended_field_at text c.end row 2) (λ d.
    and_then (ended_field_at text d.end row 3) (λ t.
    and_then (ended_field_at text t.end row 4) (λ p1.
    and_then (ended_field_at text p1.end row 5) (λ p2.
    and_then (ended_field_at text p2.end row 6) (λ s.
    Ok (record {
      task = record { c = c.value; d = d.value; t = t.value; p1 = p1.value; p2 = p2.value; s = s.value };
      end = s.end;
    })))))))

-- the tasks with one more, or why it is not added
abbrev pub added_by : {A : Type 0} → ℕ → List Task → Result A AddRefusal → Result (List Task) RecordFault
added_by row ts (Ok i) = Ok ts
added_by row ts (Err e) = Err (fault.Adding row e)

abbrev pub with_task : ℕ → List Task → Task → Result (List Task) RecordFault
with_task row ts x = added_by row (tasks_after_adding ts x) (add_answer ts x)

-- how far a reading has come: the tasks so far, and the place of the next record
pub record Progress : Type 0 where
  pub tasks : List Task
  pub next : ℕ

abbrev pub progress : List Task → ℕ → Progress
progress ts at = record { tasks = ts; next = at }

-- the header is record 1, so the first task's record is number 2
abbrev pub row_after : List Task → ℕ
row_after ts = length ts + 2

-- the next record is read whole, with its end, and only then its task is added
abbrev pub next_record : List ℕ → Progress → Result Progress RecordFault
next_record text p =
    and_then (record_at text p.next (row_after p.tasks)) (λ x.
    and_then (with_task (row_after p.tasks) p.tasks x.task) (λ ts.
    Ok (progress ts x.end)))
