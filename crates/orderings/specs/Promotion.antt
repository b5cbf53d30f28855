-- The promotion layer.
use Rattle.std.specs.Prelude.{ℕ, cond, List, ℤ, pos, Some, None, Option, nat_lt}
use Rattle.tables.specs.declared.task.Task.{Task}
use Rattle.tables.specs.Tables.{task_at}
use Rattle.orderings.specs.Meaning.{Meaning}
use Rattle.orderings.specs.Keys.{by_key}

-- P2 from age S on, and no key before; a number that is not in the table is never promoted
abbrev pub promoted_at : ℕ → Option Task → Option ℤ
promoted_at a None = None
promoted_at a (Some t) = cond (nat_lt a t.s) None (Some (pos t.p2))

abbrev pub promotion_key : List Task → ℕ → ℕ → Option ℤ
promotion_key ts i a = promoted_at a (task_at ts i)

-- promoted jobs are ahead of the rest, the smaller P2 first, then the lower task number; the rest go by the ordering below
abbrev pub promotion : List Task → Meaning → Meaning
promotion ts lower = by_key (promotion_key ts) lower
