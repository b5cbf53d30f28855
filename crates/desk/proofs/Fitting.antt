-- Every table's text fits 4,096 bytes, and what was written at a buffer's front is read back from there.
use Rattle.std.proofs.Common.{◌≡◌, ℕ, suc, ◌-◌, ◌*◌, ◌≤◌, List, [], ◌∷◌, length, take, drop, replicate, Ok, Err, refl, ap, ◌∙◌, arith}
use lib.ListN.{length-replicate}
use Rattle.std.specs.List.{flat_map}
use Rattle.std.proofs.lemmas.List.{length-append, take_at}
use Rattle.std.proofs.lemmas.Bool.{cond-true, le-leb}
use Rattle.refusals.specs.declared.kinds.WriteRefusal.{WriteRefusal}
use Rattle.tables.specs.declared.task.Task.{Task}
use Rattle.tables.specs.declared.table.Table.{Table}
use Rattle.tables.specs.Tasks.{Each, Timed, Ranked}
use Rattle.tables.specs.Tables.{tasks_of}
use Rattle.tables.proofs.Counted.{tasks_few}
use Rattle.table_text.specs.Fields.{comma, carriage_return}
use Rattle.table_text.specs.Written.{record_text, table_text, write_answer, buffer_after}
use Rattle.table_text.proofs.Texts.{field_short}

record_short : (x : Task) → Timed x → Ranked x → length (record_text x) ≤ 67
unfolding record_text
record_short x t r =
    simp length-append (omega (
      arith,
      field_short x.c comma (omega arith),
      field_short x.d comma (omega arith),
      field_short x.t comma (omega arith),
      field_short x.p1 comma (omega arith),
      field_short x.p2 comma (omega arith),
      field_short x.s carriage_return (omega arith),
    ))

records_short : (ts : List Task) → Each Timed ts → Each Ranked ts → length (flat_map record_text ts) ≤ length ts * 67
records_short [] t r = omega arith
records_short (x ∷ ts) t r =
    let rest = records_short ts (λ k h. t (suc k) (omega arith)) (λ k h. r (suc k) (omega arith)) in
    simp length-append (omega (arith, record_short x (t 0 (omega arith)) (r 0 (omega arith))))

pub text_short : (t : Table) → length (table_text (tasks_of t)) ≤ 4096
text_short t = let n = tasks_few t in let l = records_short (tasks_of t) t.timed t.ranked in omega arith

pub fits_blank : (t : Table) → length (table_text (tasks_of t)) ≤ length (replicate {A = ℕ} 4096 0)
fits_blank t = let l = text_short t in let n = length-replicate {A = ℕ} 4096 0 in omega arith

module _ (text buffer : List ℕ) (room : length text ≤ length buffer) where
  pub not_refused : (e : WriteRefusal) → Err e ≡ write_answer text buffer → ⊥
  not_refused e is =
      let w : write_answer text buffer ≡ Ok (length text) = cond-true _ _ _ (le-leb (length text) (length buffer) room) in
      let z : ◌≡◌ {A = ℕ} 0 1 = cc in
      omega arith

  pub front_is : (after : List ℕ) (n : ℕ) → Ok n ≡ write_answer text buffer → after ≡ buffer_after text buffer → take (n - 0) after ≡ text
  front_is after n is e =
      let w : write_answer text buffer ≡ Ok (length text) = cond-true _ _ _ (le-leb (length text) (length buffer) room) in
      let same : n ≡ length text = cc in
      let short : n - 0 ≡ length text = omega arith in
      ap (λ k. take k after) short
      ∙ ap (take (length text)) (e ∙ cond-true _ _ _ (le-leb (length text) (length buffer) room))
      ∙ take_at text (drop (length text) buffer) _ refl
