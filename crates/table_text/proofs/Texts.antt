-- The lengths of written texts, and one record more.
use Rattle.std.proofs.Common.{◌≡◌, ℕ, ◌+◌, ◌^◌, ◌<◌, ◌≤◌, List, [], ◌++◌, length, get_or, take, drop, decimal, sym, ap, ◌∙◌, arith}
use Rattle.std.specs.List.{flat_map}
use Rattle.std.proofs.lemmas.List.{length_push, length-append, at_drop_more, at_drop_all, flat_map_more, take_more}
use Rattle.std.proofs.lemmas.Fmt.{length-decimal-le}
use Rattle.tables.specs.declared.task.Task.{Task}
use Rattle.tables.specs.Tasks.{nobody}
use Rattle.table_text.specs.Written.{field_text, record_text}

pub length_field : (v b : ℕ) → length (field_text v b) ≡ length (decimal v) + 1
unfolding field_text
length_field v b = length_push (decimal v) b

pub field_short : (v b : ℕ) → v < 2 ^ 32 → length (field_text v b) ≤ 11
field_short v b h = let l = length-decimal-le 10 v (omega arith) (omega arith) (omega arith) in omega (arith, length_field v b)

pub length_records_more : (xs : List Task) (i : ℕ) → i < length xs → length (flat_map record_text (drop i xs)) ≡ length (record_text (get_or xs i nobody)) + length (flat_map record_text (drop (i + 1) xs))
length_records_more xs i h = at_drop_more (λ ys. length (flat_map record_text ys)) xs i nobody h ∙ length-append (record_text (get_or xs i nobody)) (flat_map record_text (drop (i + 1) xs))

pub length_records_all : (xs : List Task) (i : ℕ) → length xs ≤ i → length (flat_map record_text (drop i xs)) ≡ 0
length_records_all xs i h = at_drop_all (λ ys. length (flat_map record_text ys)) xs i h

pub records_more : (xs : List Task) (i : ℕ) → i < length xs → flat_map record_text (take i xs) ++ record_text (get_or xs i nobody) ≡ flat_map record_text (take (i + 1) xs)
records_more xs i h = flat_map_more record_text [] (take i xs) (get_or xs i nobody) ∙ ap (flat_map record_text) (sym (take_more xs i nobody h))
