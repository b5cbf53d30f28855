-- An early finish on a run's memory is one on the state that it stands for.
use Rattle.std.proofs.Common.{◌≡◌, ℕ, ◌<◌, ◌≤◌, false, List, length, take, set, Some, None, sym, ap, ◌∙◌, arith}
use Rattle.std.specs.List.{slice_get}
use Rattle.std.proofs.Math.Seq.{take-set-lt}
use Rattle.std.proofs.lemmas.Option.{slice_get_within, get_or_from_slice_get}
use Rattle.std.proofs.lemmas.Bool.{lt-leb, ne_eqb}
use Rattle.tables.specs.declared.task.Task.{Task}
use Rattle.schedules.specs.declared.slot.Slot.{Slot}
use Rattle.schedules.specs.declared.slot.Progress.{Progress}
use Rattle.schedules.specs.Units.{nothing, at}
use Rattle.schedules.specs.Runs.{state_of, finish_fault, slots_finished, finished}
use Rattle.schedules.proofs.Viewed.{view_length, view_at}

-- the slot of a ready job loses its units
pub finish_done : (ts : List Task) (p : Progress) → length ts ≤ 32 → length p.slots ≡ 32 → p.ended ≡ false
    → (i : ℕ) (slot : Slot) → slice_get (take (length ts) p.slots) i ≡ Some slot → (slot.left ≡ 0 → ⊥)
    → state_of ts (record { slots = set p.slots i (record { age = (at p.slots i).age; left = 0 }); ended = p.ended }) ≡ finished (state_of ts p) i
finish_done ts p few wide on i slot here ready =
    let ss = take (length ts) p.slots in
    let within = slice_get_within ss i slot here in
    let h : i < length ts = omega (arith, view_length ts p few wide) in
    let e = get_or_from_slice_get ss i slot nothing here in
    let r : (at ss i).left ≡ 0 → ⊥ = λ z. ready (ap (λ s. s.left) (sym e) ∙ z) in
    let f : finish_fault (state_of ts p) i ≡ None = rw (on, lt-leb (length ss) i within, ne_eqb (at ss i).left 0 r) in
    ap (λ us. record { slots = us; ended = p.ended })
    (take-set-lt (length ts) p.slots i _ h ∙ ap (λ s. set ss i (record { age = s.age; left = 0 })) (sym (view_at ts p few wide i h)))
    ∙ ap (λ o. record { slots = slots_finished ss i o; ended = p.ended }) (sym f)
