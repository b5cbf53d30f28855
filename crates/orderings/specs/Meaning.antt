-- What an ordering of jobs means, and the laws that it keeps.
use Rattle.std.specs.Prelude.{◌≡◌, ℕ, ◌^◌, ◌<◌, Bool, true, false, not, ◌≢◌}

-- is the job of task i at age a ahead of that of task j at age b?
abbrev pub Meaning : Type 0
Meaning = ℕ → ℕ → ℕ → ℕ → Bool

-- task numbers and ages lie in 0 .. 4,294,967,295, and the laws are asked there only
abbrev pub InRange : ℕ → Type 0
InRange n = n < 2 ^ 32

-- of two jobs of different tasks exactly one is ahead of the other
abbrev pub Exclusive : Meaning → Type 0
Exclusive m = (i a j b : ℕ) → InRange i → InRange a → InRange j → InRange b
    → i ≢ j → m j b i a ≡ not (m i a j b)

-- among three different tasks: the first ahead of the second, and that of the third, is ahead of the third
abbrev pub Transitive : Meaning → Type 0
Transitive m = (i a j b k c : ℕ) → InRange i → InRange a → InRange j → InRange b → InRange k → InRange c
    → i ≢ j → j ≢ k → i ≢ k → m i a j b ≡ true → m j b k c ≡ true → m i a k c ≡ true

-- a job is not ahead of one of the same task
abbrev pub Irreflexive : Meaning → Type 0
Irreflexive m = (i a b : ℕ) → InRange i → InRange a → InRange b → m i a i b ≡ false
