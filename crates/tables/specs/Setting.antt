-- What setting a promotion time answers, and what it leaves.
use Rattle.std.specs.Prelude.{◌≡◌, ℕ, cond, ◌≢◌, List, length, get_or, Some, None, Ok, Err, Option, Result, nat_le, nat_lt, slice_index_or, slice_set}
use Rattle.refusals.specs.declared.kinds.SetRefusal.{SetRefusal}
use Rattle.refusals.specs.declared.kinds.SetRefusal.TheVariants.{NoSuchTask, PromotionOutOfBounds}
use Rattle.tables.specs.declared.task.Task.{Task}
use Rattle.tables.specs.Tasks.{nobody}

-- the first condition that fails, in the order of checking
abbrev pub set_fault : List Task → ℕ → ℕ → Option SetRefusal
set_fault ts i s =
    cond (nat_le (length ts) i) (Some NoSuchTask)
    (cond (nat_lt (get_or ts i nobody).d s) (Some PromotionOutOfBounds) None)

-- the task with another S
abbrev pub with_promotion : Task → ℕ → Task
with_promotion x s = record { c = x.c; d = x.d; t = x.t; p1 = x.p1; p2 = x.p2; s = s }

abbrev pub set_by : Option SetRefusal → Result (Unit {0}) SetRefusal
set_by None = Ok tt
set_by (Some e) = Err e

abbrev pub tasks_set_by : List Task → ℕ → ℕ → Option SetRefusal → List Task
tasks_set_by ts i s None = slice_set ts i (with_promotion (slice_index_or ts i nobody) s)
tasks_set_by ts i s (Some e) = ts

abbrev pub set_answer : List Task → ℕ → ℕ → Result (Unit {0}) SetRefusal
set_answer ts i s = set_by (set_fault ts i s)

abbrev pub tasks_after_setting : List Task → ℕ → ℕ → List Task
tasks_after_setting ts i s = tasks_set_by ts i s (set_fault ts i s)

-- in words: as many tasks as before, task i with S = s and its other numbers as before, and every other task as before
abbrev pub OnlyPromotion : List Task → List Task → ℕ → ℕ → Type 0
OnlyPromotion before after i s =
    (length after ≡ length before)
    × (slice_index_or after i nobody ≡ with_promotion (slice_index_or before i nobody) s)
    × ((k : ℕ) → k ≢ i → slice_index_or after k nobody ≡ slice_index_or before k nobody)
