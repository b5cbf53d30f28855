-- The lowest number that passes a test.
use Rattle.std.specs.Prelude.{ℕ, zero, suc, ◌+◌, Bool, cond, Some, None, Option}

-- the lowest of n numbers from a on at which a test holds
abbrev pub lowest : (ℕ → Bool) → ℕ → ℕ → Option ℕ
lowest p a zero = None
lowest p a (suc n) = cond (p a) (Some a) (lowest p (a + 1) n)
