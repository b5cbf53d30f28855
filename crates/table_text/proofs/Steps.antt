-- The steps of a reading: one record after the other, until the text ends.
use Rattle.std.proofs.Common.{◌≡◌, ℕ, zero, suc, ◌<◌, ◌≤◌, List, length, Ok, Err, refl, arith}
use Rattle.std.proofs.lemmas.Grind.{common_steps}
use Rattle.refusals.specs.declared.kinds.ReadRefusal.TheVariants.{TextTooLong}
use Rattle.table_text.specs.Records.{Progress, next_record}
use Rattle.table_text.specs.Reading.{past_header, after_record, read_records, read_after, read_table}

pub read_end : (n : ℕ) (text : List ℕ) (p : Progress) → length text ≤ p.next → read_records n text p ≡ Ok p.tasks
unfolding read_records
read_end zero text p h = refl
read_end (suc n) text p h = grind (arith, common_steps)

pub read_step : (n m : ℕ) (text : List ℕ) (p : Progress) → n ≡ suc m → p.next < length text → read_records n text p ≡ after_record (next_record text p) (read_records m text)
unfolding read_records
read_step n m text p e h = grind (arith, common_steps)

pub table_too_long : (text : List ℕ) → 4096 < length text → read_table text ≡ Err TextTooLong
unfolding read_table
table_too_long text h = grind (arith, common_steps)

pub table_after_header : (text : List ℕ) → length text ≤ 4096 → read_table text ≡ read_after text (past_header text)
unfolding read_table
table_after_header text h = grind (arith, common_steps)
