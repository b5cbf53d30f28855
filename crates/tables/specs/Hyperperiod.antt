-- The hyperperiod of a list of tasks.
use Rattle.std.specs.Prelude.{ℕ, List, fold}
use Rattle.std.specs.Int.{◌∣◌}
use Rattle.tables.specs.Divisors.{lcm}
use Rattle.tables.specs.Tasks.{Each}
use Rattle.tables.specs.declared.task.Task.{Task}

-- the least common multiple of all periods, one after the other; 1 for no task
unfoldable pub hyperperiod_of : List Task → ℕ
hyperperiod_of ts = fold (λ h x. lcm h x.t) 1 ts

-- every period divides it
abbrev pub CommonMultiple : List Task → ℕ → Type 0
CommonMultiple ts m = Each (λ x. x.t ∣ m) ts

-- every period divides it, and it divides every number that they all divide
abbrev pub LeastCommonMultiple : List Task → ℕ → Type 0
LeastCommonMultiple ts h = CommonMultiple ts h × ((m : ℕ) → CommonMultiple ts m → h ∣ m)
