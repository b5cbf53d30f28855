use Rattle.std.proofs.Common.{ℕ, ◌^◌, ◌<◌, arith}
use native.Mathlib.Nat.{pow-le-pow_right}
use Rattle.table_text.proofs.fields.plain_number.Goals as goal

below-million : (v i : ℕ) → v < 10 ^ i → i < 7 → v < 1000000
below-million v i h l = let p = pow-le-pow_right {n = 10} (omega arith) {i = i} {j = 6} (omega arith) in omega arith

pub overflow_mul-v : goal.overflow_mul-v
overflow_mul-v c = let h = below-million c.loop-b.v c.loop-b.b-index c.loop-b.invariant.1 (omega arith) in omega arith

pub overflow_add-v : goal.overflow_add-v
overflow_add-v c = let h = below-million c.loop-b.v c.loop-b.b-index c.loop-b.invariant.1 (omega arith) in omega arith
