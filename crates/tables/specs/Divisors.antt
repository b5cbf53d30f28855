-- The greatest common divisor and the least common multiple of two numbers.
use Rattle.std.specs.Prelude.{ℕ, zero, suc, ◌*◌, ◌/◌, ◌%◌}

-- Euclid's algorithm, cut off after so many turns
abbrev pub gcd_within : ℕ → ℕ → ℕ → ℕ
gcd_within zero a b = a
gcd_within (suc n) a zero = a
gcd_within (suc n) a (suc b) = gcd_within n (suc b) (a % suc b)

-- b turns are enough, since the second number falls with each
unfoldable pub gcd : ℕ → ℕ → ℕ
gcd a b = gcd_within b a b

abbrev pub lcm : ℕ → ℕ → ℕ
lcm a b = a / gcd a b * b
