-- Every table's text reads as that table.
use Rattle.std.proofs.Common.{◌≡◌, ◌+◌, ◌*◌, ◌≤◌, List, [], ◌∷◌, ◌++◌, length, get_or, take, drop, Some, sym, refl, ap, ◌∙◌, subst, append_assoc, arith}
use Rattle.std.specs.List.{flat_map}
use Rattle.std.proofs.lemmas.List.{length-append, length_push, get_or_at, take_at}
use Rattle.tables.specs.declared.task.Task.{Task}
use Rattle.tables.specs.declared.table.Table.{Table}
use Rattle.tables.specs.Divisors.{lcm}
use Rattle.tables.specs.Tasks.{nobody, Each, Timed, Ranked}
use Rattle.tables.specs.Hyperperiod.{hyperperiod_of}
use Rattle.tables.specs.Tables.{tasks_of}
use Rattle.tables.proofs.Multiples.{Positive, hyper_push, hyper_front}
use Rattle.tables.proofs.Counted.{tasks_few, positive}
use Rattle.tables.proofs.Added.{timely_is, well_ranked_is, fault_none}
use Rattle.table_text.specs.Reading.{past_header, read_after}
use Rattle.table_text.specs.Written.{record_text, table_text, ReadsBack}
use Rattle.table_text.proofs.Steps.{table_after_header}
use Rattle.table_text.proofs.Texts.{field_short}
use Rattle.table_text.proofs.Back.{Small, Addable, records_back}

small : (x : Task) → Timed x → Ranked x → Small x
small x t r = (omega arith, omega arith, omega arith, omega arith, omega arith, omega arith)

record_short : (x : Task) → Small x → length (record_text x) ≤ 67
unfolding record_text
record_short x h =
    simp length-append
    (omega (
      arith,
      field_short x.c 44 (omega arith),
      field_short x.d 44 (omega arith),
      field_short x.t 44 (omega arith),
      field_short x.p1 44 (omega arith),
      field_short x.p2 44 (omega arith),
      field_short x.s 13 (omega arith),
    ))

records_short : (acc ys : List Task) → Addable acc ys → length (flat_map record_text ys) ≤ length ys * 67
records_short acc [] add = omega arith
records_short acc (y ∷ ys) add =
    let n = length-append (record_text y) (flat_map record_text ys) in
    let one = record_short y add.1 in
    let rest = records_short (acc ++ y ∷ []) ys add.2 in
    omega arith

-- the tasks of a table can be added again, one after the other
module _ (ts : List Task) (few : length ts ≤ 32) (timed : Each Timed ts) (ranked : Each Ranked ts) (all : Positive ts) (short : hyperperiod_of ts ≤ 1000000000) where
  addable : (acc ys : List Task) → acc ++ ys ≡ ts → Addable acc ys
  addable acc [] e = tt
  addable acc (y ∷ ys) e =
      let l : length acc + length (y ∷ ys) ≡ length ts = sym (length-append acc (y ∷ ys)) ∙ ap length e in
      let here : get_or ts (length acc) nobody ≡ y = ap (λ us. get_or us (length acc) nobody) (sym e) ∙ get_or_at acc y ys nobody (length acc) refl in
      let t : Timed y = subst Timed here (timed (length acc) (omega arith)) in
      let r : Ranked y = subst Ranked here (ranked (length acc) (omega arith)) in
      let more : (acc ++ y ∷ []) ++ ys ≡ ts = append_assoc acc (y ∷ []) ys ∙ e in
      let front : take (length acc + 1) ts ≡ acc ++ y ∷ [] = ap (take (length acc + 1)) (sym more) ∙ take_at (acc ++ y ∷ []) ys (length acc + 1) (length_push acc y) in
      let h = (hyper_front ts (length acc + 1) all).1 in
      let hp : hyperperiod_of (take (length acc + 1) ts) ≡ lcm (hyperperiod_of acc) y.t = ap hyperperiod_of front ∙ hyper_push acc y in
      (fault_none acc y (omega arith) (timely_is y t) (well_ranked_is y r) (omega arith), small y t r, addable (acc ++ y ∷ []) ys more)

header_back : (ts : List Task) → past_header (table_text ts) ≡ Some 15
header_back ts = refl

behind_header : (ts : List Task) → drop 15 (table_text ts) ≡ flat_map record_text ts
behind_header ts = refl

pub reads_back : (t : Table) → ReadsBack (tasks_of t)
reads_back t =
    let ts = tasks_of t in
    let few = tasks_few t in
    let add = addable ts few t.timed t.ranked (positive t) t.short [] ts refl in
    let n = records_short [] ts add in
    table_after_header (table_text ts) (omega arith)
    ∙ ap (read_after (table_text ts)) (header_back ts)
    ∙ records_back ts 33 15 [] (table_text ts) (behind_header ts) (omega arith) add
