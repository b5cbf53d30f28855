-- What is written is read back: a number, a field, a record, and all records of a table.
use Rattle.std.proofs.Common.{◌≡◌, ℕ, ◌+◌, ◌-◌, ◌*◌, ◌/◌, ◌%◌, ◌^◌, ◌<◌, ◌≤◌, true, List, [], ◌∷◌, ◌++◌, length, get_or, take, drop, Some, None, Ok, decimal, sym, refl, ap, ◌∙◌, inl, inr, append_assoc, add-zero, arith}
use native.Mathlib.Nat.{div-add-mod}
use Rattle.std.specs.List.{flat_map, prefix_len}
use Rattle.std.proofs.lemmas.List.{append-nil, take_at, drop_at, drop-drop, length-drop, length-append, length_push, get_or_append_left}
use Rattle.std.proofs.lemmas.Bool.{cond-true, cond-false, cases_Bool}
use Rattle.std.proofs.lemmas.Bool.Decides.{nat_tests}
use Rattle.std.proofs.lemmas.Fmt.{decimal_by_steps, length-decimal-le}
use Rattle.std.proofs.lemmas.Grind.{common_steps}
use Rattle.tables.specs.declared.task.Task.{Task}
use Rattle.tables.specs.Adding.{add_fault, answer_by, tasks_by}
use Rattle.table_text.specs.Fields.{Field, in_field, field_length, field_bytes, is_digit, digits_after, field_number, field_by, field_at}
use Rattle.table_text.specs.Separators.{past_separator}
use Rattle.table_text.specs.Records.{ended_by, field_then_end, ended_field_at, record_at, progress, row_after}
use Rattle.table_text.specs.Reading.{after_record, read_records}
use Rattle.table_text.specs.Written.{field_text, record_text}
use Rattle.table_text.proofs.Steps.{read_end, read_step}
use Rattle.table_text.proofs.Nexts.{next_added}
use Rattle.table_text.proofs.Texts.{length_field}

digits_push : (a v c : ℕ) (xs : List ℕ) → is_digit c ≡ true → digits_after a xs ≡ Some v → digits_after a (xs ++ c ∷ []) ≡ Some (10 * v + (c - 48))
digits_push a v c [] d h =
    let e : a ≡ v = grind arith in
    cond-true (is_digit c) (Some (10 * a + (c - 48))) None d ∙ ap (λ k. Some (10 * k + (c - 48))) e
digits_push a v c (x ∷ xs) d h =
    elim (cases_Bool (is_digit x)) [
      | inl e ↦ cond-true (is_digit x) (digits_after (10 * a + (x - 48)) (xs ++ c ∷ [])) None e ∙ digits_push (10 * a + (x - 48)) v c xs d (sym (cond-true (is_digit x) (digits_after (10 * a + (x - 48)) xs) None e) ∙ h)
      | inr e ↦ let z : None ≡ Some v = sym (cond-false (is_digit x) (digits_after (10 * a + (x - 48)) xs) None e) ∙ h in let y : ⊥ = grind arith in absurd y
    ]

-- the digits of a number: they read as it, they are a field, and there is a first one
record Decimal (n : ℕ) (ds : List ℕ) : Type 0 where
  pub reads : digits_after 0 ds ≡ Some n
  pub leads : (rest : List ℕ) → prefix_len in_field (ds ++ rest) ≡ length ds + prefix_len in_field rest
  pub some : 0 < length ds
  pub first : 48 ≤ get_or ds 0 0

one_digit : (n : ℕ) → n < 10 → Decimal n ((48 + n) ∷ [])
one_digit n h = grind (arith, common_steps)

more_digits : (n : ℕ) (ds : List ℕ) → 10 ≤ n → Decimal (n / 10) ds → Decimal n (ds ++ (48 + n % 10) ∷ [])
more_digits n ds h p =
    let d : is_digit (48 + n % 10) ≡ true = grind (arith, nat_tests) in
    let i : in_field (48 + n % 10) ≡ true = grind (arith, nat_tests) in
    let e : 10 * (n / 10) + ((48 + n % 10) - 48) ≡ n = omega (arith, div-add-mod n 10) in
    let l = length_push ds (48 + n % 10) in
    record {
      reads = digits_push 0 (n / 10) (48 + n % 10) ds d p.reads ∙ ap (λ k. Some k) e;
      leads = λ rest.
          let t = cond-true (in_field (48 + n % 10)) (1 + prefix_len in_field rest) 0 i in
          let q = p.leads ((48 + n % 10) ∷ rest) in
          ap (prefix_len in_field) (append_assoc ds ((48 + n % 10) ∷ []) rest) ∙ omega (arith, q, t);
      some = omega arith;
      first = let g = get_or_append_left ds ((48 + n % 10) ∷ []) 0 0 p.some in omega (arith, p.first);
    }

decimal_is : (n : ℕ) → n < 2 ^ 64 → Decimal n (decimal n)
decimal_is n h = decimal_by_steps Decimal one_digit more_digits n h

number_back : (v : ℕ) → v < 10000000 → field_number (decimal v) ≡ Some v
number_back v h = grind (arith, common_steps, decimal_is v (omega arith), length-decimal-le 7 v (omega arith) (omega arith) (omega arith))

-- the place behind what stands at a place
next : (text s t : List ℕ) (at : ℕ) → drop at text ≡ s ++ t → drop (at + length s) text ≡ t
next text s t at e = sym (drop-drop (length s) at text) ∙ ap (drop (length s)) e ∙ drop_at s t (length s) refl

field_back : (text rest : List ℕ) (at v row k : ℕ) → v < 10000000 → drop at text ≡ decimal v ++ rest → prefix_len in_field rest ≡ 0 → field_at text at row k ≡ Ok (record { value = v; end = at + length (decimal v) })
field_back text rest at v row k h e z =
    let p = decimal_is v (omega arith) in
    let n : field_length (drop at text) ≡ length (decimal v) =
    ap (prefix_len in_field) e ∙ p.leads rest ∙ ap (λ j. length (decimal v) + j) z ∙ add-zero (length (decimal v)) in
    let bytes : field_bytes (drop at text) ≡ decimal v =
    ap (λ j. take j (drop at text)) n ∙ ap (take (length (decimal v))) e ∙ take_at (decimal v) rest (length (decimal v)) refl in
    ap (λ j. field_by row k (at + j) (field_number (field_bytes (drop at text)))) n
    ∙ ap (λ ds. field_by row k (at + length (decimal v)) (field_number ds)) bytes
    ∙ ap (field_by row k (at + length (decimal v))) (number_back v h)

-- a field and what follows it
ended_back : (text rest : List ℕ) (at v row k end : ℕ) → v < 10000000 → drop at text ≡ decimal v ++ rest → prefix_len in_field rest ≡ 0
    → past_separator k (at + length (decimal v)) rest ≡ Some end → ended_field_at text at row k ≡ Ok (record { value = v; end = end })
ended_back text rest at v row k end h e z s =
    ap (field_then_end text row k) (field_back text rest at v row k h e z)
    ∙ ap (λ bs. ended_by row v (past_separator k (at + length (decimal v)) bs)) (next text (decimal v) rest at e)
    ∙ ap (ended_by row v) s

field_split : (v b : ℕ) (rest : List ℕ) → field_text v b ++ rest ≡ decimal v ++ (b ∷ rest)
unfolding field_text
field_split v b rest = append_assoc (decimal v) (b ∷ []) rest

comma_back : (text rest : List ℕ) (at v row k : ℕ) → v < 10000000 → k < 6 → drop at text ≡ field_text v 44 ++ rest → ended_field_at text at row k ≡ Ok (record { value = v; end = at + length (field_text v 44) })
comma_back text rest at v row k h small e =
    let n = length_field v 44 in
    let s : past_separator k (at + length (decimal v)) (44 ∷ rest) ≡ Some (at + length (decimal v) + 1) = grind (arith, nat_tests) in
    let m : at + length (decimal v) + 1 ≡ at + length (field_text v 44) = omega arith in
    ended_back text (44 ∷ rest) at v row k (at + length (decimal v) + 1) h (e ∙ field_split v 44 rest) refl s ∙ ap (λ j. Ok (record { value = v; end = j })) m

last_back : (text rest : List ℕ) (at v row : ℕ) → v < 10000000 → drop at text ≡ field_text v 13 ++ (10 ∷ rest) → ended_field_at text at row 6 ≡ Ok (record { value = v; end = at + (length (field_text v 13) + 1) })
last_back text rest at v row h e =
    let n = length_field v 13 in
    let s : past_separator 6 (at + length (decimal v)) (13 ∷ (10 ∷ rest)) ≡ Some (at + length (decimal v) + 2) = grind (arith, nat_tests) in
    let m : at + length (decimal v) + 2 ≡ at + (length (field_text v 13) + 1) = omega arith in
    ended_back text (13 ∷ (10 ∷ rest)) at v row 6 (at + length (decimal v) + 2) h (e ∙ field_split v 13 (10 ∷ rest)) refl s ∙ ap (λ j. Ok (record { value = v; end = j })) m

-- numbers of at most 7 digits
abbrev pub Small : Task → Type 0
Small x = (x.c < 10000000) × (x.d < 10000000) × (x.t < 10000000) × (x.p1 < 10000000) × (x.p2 < 10000000) × (x.s < 10000000)

record_from : (text : List ℕ) (at row : ℕ) (c d t p1 p2 s : Field)
    → ended_field_at text at row 1 ≡ Ok c
    → ended_field_at text c.end row 2 ≡ Ok d
    → ended_field_at text d.end row 3 ≡ Ok t
    → ended_field_at text t.end row 4 ≡ Ok p1
    → ended_field_at text p1.end row 5 ≡ Ok p2
    → ended_field_at text p2.end row 6 ≡ Ok s
    → record_at text at row ≡ Ok (record { task = record { c = c.value; d = d.value; t = t.value; p1 = p1.value; p2 = p2.value; s = s.value }; end = s.end })
record_from text at row c d t p1 p2 s q1 q2 q3 q4 q5 q6 = simp (q1, q2, q3, q4, q5, q6)

record_back : (text rest : List ℕ) (at row : ℕ) (x : Task) → Small x → drop at text ≡ record_text x ++ rest → record_at text at row ≡ Ok (record { task = x; end = at + length (record_text x) })
unfolding record_text
record_back text rest at row x h e =
    let f1 = field_text x.c 44 in
    let f2 = field_text x.d 44 in
    let f3 = field_text x.t 44 in
    let f4 = field_text x.p1 44 in
    let f5 = field_text x.p2 44 in
    let f6 = field_text x.s 13 in
    let a2 = at + length f1 in
    let a3 = a2 + length f2 in
    let a4 = a3 + length f3 in
    let a5 = a4 + length f4 in
    let a6 = a5 + length f5 in
    let g1 : drop at text ≡ f1 ++ (f2 ++ (f3 ++ (f4 ++ (f5 ++ (f6 ++ (10 ∷ rest)))))) = e ∙ simp append_assoc in
    let g2 = next text f1 (f2 ++ (f3 ++ (f4 ++ (f5 ++ (f6 ++ (10 ∷ rest)))))) at g1 in
    let g3 = next text f2 (f3 ++ (f4 ++ (f5 ++ (f6 ++ (10 ∷ rest))))) a2 g2 in
    let g4 = next text f3 (f4 ++ (f5 ++ (f6 ++ (10 ∷ rest)))) a3 g3 in
    let g5 = next text f4 (f5 ++ (f6 ++ (10 ∷ rest))) a4 g4 in
    let g6 = next text f5 (f6 ++ (10 ∷ rest)) a5 g5 in
    let w = record_from text at row
    (record { value = x.c; end = a2 }) (record { value = x.d; end = a3 }) (record { value = x.t; end = a4 })
    (record { value = x.p1; end = a5 }) (record { value = x.p2; end = a6 }) (record { value = x.s; end = a6 + (length f6 + 1) })
    (comma_back text _ at x.c row 1 h.0 (omega arith) g1)
    (comma_back text _ a2 x.d row 2 h.1 (omega arith) g2)
    (comma_back text _ a3 x.t row 3 h.2 (omega arith) g3)
    (comma_back text _ a4 x.p1 row 4 h.3 (omega arith) g4)
    (comma_back text _ a5 x.p2 row 5 h.4 (omega arith) g5)
    (last_back text rest a6 x.s row h.5 g6) in
    let n : a6 + (length f6 + 1) ≡ at + length (record_text x) = simp length-append (omega arith) in
    w ∙ ap (λ j. Ok (record { task = x; end = j })) n

-- each of ys can be added behind those before it
abbrev pub Addable : List Task → List Task → Type 0
Addable acc [] = Unit {0}
Addable acc (y ∷ ys) = (add_fault acc y ≡ None) × Small y × Addable (acc ++ y ∷ []) ys

some_record : (x : Task) → 0 < length (record_text x)
unfolding record_text
some_record x = simp length-append (let n = length_field x.c 44 in omega arith)

pub records_back : (ys : List Task) (n at : ℕ) (acc : List Task) (text : List ℕ) → drop at text ≡ flat_map record_text ys → length ys < n → Addable acc ys → read_records n text (progress acc at) ≡ Ok (acc ++ ys)
records_back [] n at acc text e fuel add =
    let l = ap length e in
    let m = length-drop at text in
    read_end n text (progress acc at) (omega arith) ∙ ap (λ r. Ok r) (sym (append-nil acc))
records_back (y ∷ ys) n at acc text e fuel add =
    let l = ap length e ∙ length-append (record_text y) (flat_map record_text ys) in
    let m = length-drop at text in
    let w = some_record y in
    let added : Ok (length acc) ≡ answer_by (length acc) (add_fault acc y) = ap (answer_by (length acc)) (sym add.0) in
    let after : acc ++ y ∷ [] ≡ tasks_by acc y (add_fault acc y) = ap (tasks_by acc y) (sym add.0) in
    read_step n (n - 1) text (progress acc at) (omega arith) (omega arith)
    ∙ ap (λ q. after_record q (read_records (n - 1) text))
    (next_added text at (row_after acc) acc (acc ++ y ∷ []) (record { task = y; end = at + length (record_text y) }) (length acc) refl
    (sym (record_back text (flat_map record_text ys) at (row_after acc) y add.1 e)) added after)
    ∙ records_back ys (n - 1) (at + length (record_text y)) (acc ++ y ∷ []) text (next text (record_text y) (flat_map record_text ys) at e) (omega arith) add.2
    ∙ ap (λ r. Ok r) (append_assoc acc (y ∷ []) ys)
