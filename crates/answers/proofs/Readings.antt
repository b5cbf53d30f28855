-- What was read of a text.
use Rattle.std.proofs.Common.{◌≡◌, ℕ, List, Ok, Err, Result, sym, ap, arith}
use Rattle.refusals.specs.declared.kinds.ReadRefusal.{ReadRefusal}
use Rattle.tables.specs.declared.task.Task.{Task}
use Rattle.table_text.specs.Reading.{answer_by, tasks_by}

-- a reading that is done read the tasks that the target then has
pub read_done : (r : Result (List Task) ReadRefusal) (u : Unit {0}) (ts us : List Task) → Ok u ≡ answer_by r → us ≡ tasks_by ts r → r ≡ Ok us
read_done (Ok vs) u ts us e f = ap Ok (sym f)
read_done (Err x) u ts us e f = let z : ◌≡◌ {A = ℕ} 0 1 = cc in absurd (let w : ⊥ = omega arith in w)
