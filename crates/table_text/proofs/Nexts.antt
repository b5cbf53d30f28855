-- A record that is read and whose task is added.
use Rattle.std.proofs.Common.{true, ◌≡◌, ℕ, ◌+◌, List, [], ◌∷◌, ◌++◌, length, Ok, Option, arith}
use Rattle.std.specs.Result.{is_ok}
use Rattle.std.proofs.lemmas.Grind.{common_steps}
use Rattle.refusals.specs.declared.kinds.AddRefusal.{AddRefusal}
use Rattle.tables.specs.declared.task.Task.{Task}
use Rattle.tables.specs.Adding.{answer_by, tasks_by, add_answer, tasks_after_adding}
use Rattle.table_text.specs.Records.{TaskRecord, record_at, progress, row_after, next_record}

grown_by : (ts : List Task) (x : Task) (n : ℕ) (o : Option AddRefusal) → true ≡ is_ok (answer_by n o) → tasks_by ts x o ≡ ts ++ x ∷ []
grown_by ts x n o h = grind arith

-- an added task makes the list longer by one
pub one_longer : (ts us : List Task) (x : Task) → true ≡ is_ok (add_answer ts x) → us ≡ tasks_after_adding ts x → length us ≡ length ts + 1
one_longer ts us x h e = grind (arith, common_steps, grown_by)

pub next_added : (text : List ℕ) (at row : ℕ) (ts us : List Task) (x : TaskRecord) (i : ℕ) → row ≡ row_after ts → Ok x ≡ record_at text at row → Ok i ≡ add_answer ts x.task → us ≡ tasks_after_adding ts x.task → next_record text (progress ts at) ≡ Ok (progress us x.end)
next_added text at row ts us x i same read added after = grind (arith, common_steps)
