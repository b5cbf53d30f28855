-- What reading into a buffer does to the bytes that an input still has, where those are known.
use Rattle.std.specs.Prelude.{ℕ, ◌≤◌, List, length, take, Option}
use Rattle.std.specs.Io.KnownBytes.{Consumes}

-- the bytes that were taken of the input stand at the front of the buffer, however many they are
abbrev pub FrontIsTaken : Option (List ℕ) → Option (List ℕ) → List ℕ → Type 0
FrontIsTaken before after buffer = (n : ℕ) × (n ≤ length buffer) × Consumes before after (take n buffer)
