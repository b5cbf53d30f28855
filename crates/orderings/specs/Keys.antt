-- Orderings by a key: whoever has the smaller key is ahead.
use Rattle.std.specs.Prelude.{ℕ, Bool, true, false, cond, not, ◌&&◌, ◌||◌, List, ℤ, Some, None, Option, ◌==◌, int_lt, nat_lt}
use Rattle.std.specs.Option.{option_map}
use Rattle.tables.specs.declared.task.Task.{Task}
use Rattle.tables.specs.Tables.{task_at}
use Rattle.orderings.specs.Meaning.{Meaning}

-- two jobs of different tasks: the smaller key, then the lower number; one with a key is ahead of one without;
-- two without a key go as `rest` says
abbrev pub smaller_key : Option ℤ → ℕ → Option ℤ → ℕ → Bool → Bool
smaller_key (Some x) i (Some y) j rest = int_lt x y || (not (int_lt y x) && nat_lt i j)
smaller_key (Some x) i None j rest = true
smaller_key None i (Some y) j rest = false
smaller_key None i None j rest = rest

-- and none of the same task precedes another
abbrev pub key_precedes : Option ℤ → ℕ → Option ℤ → ℕ → Bool → Bool
key_precedes x i y j rest = cond (i == j) false (smaller_key x i y j rest)

-- the ordering by a key, over an ordering of the jobs that have none
abbrev pub by_key : (ℕ → ℕ → Option ℤ) → Meaning → Meaning
by_key key rest i a j b = key_precedes (key i a) i (key j b) j (rest i a j b)

-- the lower task number is ahead
abbrev pub by_number : Meaning
by_number i a j b = nat_lt i j

-- the key of a job, from what its task and age count with; a number that is not in the table has no key
abbrev pub key_of : (Task → ℕ → ℤ) → List Task → ℕ → ℕ → Option ℤ
key_of value ts i a = option_map (λ t. value t a) (task_at ts i)
