-- Every promotion time at its deadline, one task after the other.
use Rattle.std.proofs.Common.{◌≡◌, ℕ, ◌+◌, ◌<◌, ◌≤◌, List, ◌∷◌, ◌++◌, length, get_or, take, drop, set, sym, refl, ap, ◌∙◌, append-nil, arith}
use Rattle.std.proofs.lemmas.List.{length-map, length-take-le, length-append, take_all, drop_all, drop_more}
use Rattle.std.proofs.Math.Seq.{get_or-append_seam}
use Rattle.std.proofs.lemmas.List.Edits.{map_over_more}
use Rattle.tables.specs.declared.task.Task.{Task}
use Rattle.tables.specs.Tasks.{nobody}
use Rattle.tables.specs.Setting.{with_promotion, tasks_set_by, tasks_after_setting}
use Rattle.tables.proofs.Set.{fault_nothing}
use Rattle.searches.specs.Searches.{at_deadlines}

-- the tasks before i are moved
abbrev pub half_moved : List Task → ℕ → List Task
half_moved ts i = at_deadlines (take i ts) ++ drop i ts

pub half_moved_all : (ts : List Task) (i : ℕ) → length ts ≤ i → half_moved ts i ≡ at_deadlines ts
half_moved_all ts i h =
    ap (λ us. at_deadlines us ++ drop i ts) (take_all i ts h)
    ∙ ap (λ us. at_deadlines ts ++ us) (drop_all i ts h)
    ∙ append-nil (at_deadlines ts)

pub half_moved_more : (ts : List Task) (i : ℕ) → i < length ts → tasks_after_setting (half_moved ts i) i (get_or ts i nobody).d ≡ half_moved ts (i + 1)
half_moved_more ts i h =
    let x = get_or ts i nobody in
    let front = at_deadlines (take i ts) in
    let us = half_moved ts i in
    let n : length front ≡ i = length-map (take i ts) _ ∙ length-take-le i ts (omega arith) in
    let e : us ≡ front ++ x ∷ drop (i + 1) ts = ap (λ vs. front ++ vs) (drop_more ts i nobody h) in
    let here : (d : Task) → get_or us i d ≡ x = λ d.
    ap (λ vs. get_or vs i d) e ∙ ap (λ k. get_or (front ++ x ∷ drop (i + 1) ts) k d) (sym n) ∙ get_or-append_seam front x (drop (i + 1) ts) d in
    let l : i < length us = omega (arith, ap length e, length-append front (x ∷ drop (i + 1) ts)) in
    let t = ap (λ (z : Task). z.d) (here nobody) in
    ap (tasks_set_by us i x.d) (fault_nothing us i x.d l (omega arith))
    ∙ ap (λ z. set us i (with_promotion z x.d)) (here nobody)
    ∙ map_over_more (λ z. with_promotion z z.d) ts us i x h refl (sym (here x))
