-- The table that is made of a list of tasks, added one after the other.
use Rattle.std.specs.Prelude.{◌≡◌, List, [], ◌∷◌, Ok, Err, Result, MatchResult}
use Rattle.std.specs.Result.{result_and}
use Rattle.refusals.specs.declared.kinds.AddRefusal.{AddRefusal}
use Rattle.tables.specs.declared.task.Task.{Task}
use Rattle.tables.specs.declared.table.Table.{Table}
use Rattle.tables.specs.Adding.{add_answer, tasks_after_adding}
use Rattle.tables.specs.Tables.{tasks_of}

-- further tasks, each added behind those before it: all tasks in the end, or the first refusal
abbrev pub all_added : List Task → List Task → Result (List Task) AddRefusal
all_added ts [] = Ok ts
all_added ts (x ∷ xs) = result_and (add_answer ts x) (all_added (tasks_after_adding ts x) xs)

-- either the table has exactly these tasks, each of which could be added, or the first adding that is refused names why
abbrev pub MadeOf : List Task → Result Table AddRefusal → Type 0
MadeOf xs made =
    MatchResult made (λ t. (tasks_of t ≡ xs) × (all_added [] xs ≡ Ok xs)) (λ e. all_added [] xs ≡ Err e)
