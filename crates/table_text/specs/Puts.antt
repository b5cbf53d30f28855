-- What a write to a buffer leaves.
use Rattle.std.specs.Prelude.{◌≡◌, ℕ, ◌+◌, List, ◌++◌, length, take, drop}

-- the bytes stand from the place `at` up to `end`, and nothing else changed
pub record Put (before after : List ℕ) (at end : ℕ) (bytes : List ℕ) : Type 0 where
  pub place : end ≡ at + length bytes
  pub front : take end after ≡ take at before ++ bytes
  pub back : drop end after ≡ drop end before
