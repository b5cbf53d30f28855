-- What adding a task answers, and what it leaves.
use Rattle.std.specs.Prelude.{ℕ, Bool, cond, not, ◌&&◌, List, [], ◌∷◌, ◌++◌, length, Some, None, Ok, Err, Option, Result, nat_le, nat_lt}
use Rattle.refusals.specs.declared.kinds.AddRefusal.{AddRefusal}
use Rattle.refusals.specs.declared.kinds.AddRefusal.TheVariants.{TableFull, TimesOutOfBounds, PrioritiesOutOfBounds, HyperperiodTooLong}
use Rattle.tables.specs.declared.task.Task.{Task}
use Rattle.tables.specs.Divisors.{lcm}
use Rattle.tables.specs.Hyperperiod.{hyperperiod_of}

-- 1 ≤ C ≤ D ≤ T ≤ 1,000,000
abbrev pub timely : Task → Bool
timely x = nat_le 1 x.c && (nat_le x.c x.d && (nat_le x.d x.t && nat_le x.t 1000000))

-- P1 and P2 at most 63, S at most D
abbrev pub well_ranked : Task → Bool
well_ranked x = nat_le x.p1 63 && (nat_le x.p2 63 && nat_le x.s x.d)

-- the first condition that fails, in the order of checking
abbrev pub add_fault : List Task → Task → Option AddRefusal
add_fault ts x =
    cond (nat_le 32 (length ts)) (Some TableFull)
    (cond (not (timely x)) (Some TimesOutOfBounds)
    (cond (not (well_ranked x)) (Some PrioritiesOutOfBounds)
    (cond (nat_lt 1000000000 (lcm (hyperperiod_of ts) x.t)) (Some HyperperiodTooLong) None)))

-- the answer is the new task's number, and the new task stands behind the others
abbrev pub answer_by : ℕ → Option AddRefusal → Result ℕ AddRefusal
answer_by n None = Ok n
answer_by n (Some e) = Err e

abbrev pub tasks_by : List Task → Task → Option AddRefusal → List Task
tasks_by ts x None = ts ++ x ∷ []
tasks_by ts x (Some e) = ts

abbrev pub add_answer : List Task → Task → Result ℕ AddRefusal
add_answer ts x = answer_by (length ts) (add_fault ts x)

abbrev pub tasks_after_adding : List Task → Task → List Task
tasks_after_adding ts x = tasks_by ts x (add_fault ts x)
