-- Promotion times by laxity, one task after the other.
use Rattle.std.proofs.Common.{◌≡◌, ℕ, suc, ◌+◌, ◌-◌, ◌<◌, ◌≤◌, Bool, false, not, ◌≢◌, List, length, get_or, set, is_some, Some, None, Option, sym, ap, ◌∙◌, inl, inr, add-one, arith}
use Rattle.std.specs.Option.{option_map}
use Rattle.std.proofs.lemmas.List.{get_or-set_same, get_or-set_other, length-set}
use Rattle.std.proofs.lemmas.List.FromFn.{fill_by_all}
use Rattle.std.proofs.lemmas.Bool.{cases_eq}
use Rattle.tables.specs.declared.task.Task.{Task}
use Rattle.tables.specs.Tasks.{nobody}
use Rattle.tables.specs.Setting.{set_fault, with_promotion, tasks_set_by, tasks_after_setting}
use Rattle.tables.proofs.Set.{fault_nothing}
use Rattle.firsts.specs.Lowest.{lowest}
use Rattle.firsts.proofs.Lowests.{lowest_found, lowest_passed, lowest_longer}
use Rattle.viability.specs.Viable.{response}
use Rattle.viability.specs.Laxity.{urgent_set, lax_time, without_time, with_time, tasks_lax_by, tasks_after_laxity}

module _ (ts : List Task) where
  -- has task i no time?
  abbrev lacks : ℕ → Bool
  lacks i = not (is_some (lax_time ts i))

  module _ (i : ℕ) (within : i < length ts) (so_far : lowest lacks 0 i ≡ None) where
    pub lacks_here : false ≡ is_some (lax_time ts i) → without_time ts ≡ Some i
    lacks_here e =
        let found : lowest lacks 0 (suc i) ≡ Some i = lowest_found lacks 0 i i (omega arith) so_far (ap not (sym e)) in
        let more : suc i + (length ts - suc i) ≡ length ts = omega arith in
        sym (ap (lowest lacks 0) more) ∙ lowest_longer lacks 0 (suc i) (length ts - suc i) i found

    pub has_here : (s : ℕ) → lax_time ts i ≡ Some s → lowest lacks 0 (i + 1) ≡ None
    has_here s e = ap (lowest lacks 0) (add-one i) ∙ lowest_passed lacks 0 i i (omega arith) so_far (ap (λ o. not (is_some o)) e)

  lax_le : (d s : ℕ) (o : Option ℕ) → option_map (λ r. d - r) o ≡ Some s → s ≤ d
  lax_le d s None e = let z : ◌≡◌ {A = ℕ} 0 1 = cc in absurd (let w : ⊥ = omega arith in w)
  lax_le d s (Some r) e = let same : d - r ≡ s = cc in omega arith

  -- one task more gets its time
  module _ (us : List Task) (i s : ℕ) (long : length us ≡ length ts) (within : i < length ts)
      (done : (k : ℕ) → k < i → get_or us k nobody ≡ with_time (get_or ts k nobody) (lax_time ts k))
      (rest : (k : ℕ) → i ≤ k → get_or us k nobody ≡ get_or ts k nobody)
      (time : lax_time ts i ≡ Some s) where
    accepted : set_fault us i s ≡ None
    accepted =
        let here = rest i (omega arith) in
        let low : s ≤ (get_or us i nobody).d = rw here (lax_le (get_or ts i nobody).d s (response ts (urgent_set ts i) i) time) in
        fault_nothing us i s (omega arith) low

    pub set_is : tasks_after_setting us i s ≡ set us i (with_promotion (get_or us i nobody) s)
    set_is = ap (tasks_set_by us i s) accepted

    pub set_long : length (tasks_after_setting us i s) ≡ length ts
    set_long = ap length set_is ∙ length-set us i _ ∙ long

    pub set_done : (k : ℕ) → k < i + 1 → get_or (tasks_after_setting us i s) k nobody ≡ with_time (get_or ts k nobody) (lax_time ts k)
    set_done k h = ap (λ l. get_or l k nobody) set_is ∙ elim (cases_eq k i) [
      | inl e ↦
          ap (λ j. get_or (set us i (with_promotion (get_or us i nobody) s)) j nobody) e
          ∙ get_or-set_same us i _ nobody (omega arith)
          ∙ ap (λ x. with_promotion x s) (rest i (omega arith))
          ∙ sym (ap (with_time (get_or ts i nobody)) time)
          ∙ ap (λ j. with_time (get_or ts j nobody) (lax_time ts j)) (sym e)
      | inr ne ↦ get_or-set_other us i k _ nobody ne ∙ done k (omega arith)
    ]

    pub set_rest : (k : ℕ) → i + 1 ≤ k → get_or (tasks_after_setting us i s) k nobody ≡ get_or ts k nobody
    set_rest k h = ap (λ l. get_or l k nobody) set_is ∙ get_or-set_other us i k _ nobody (let ne : k ≢ i = omega arith in ne) ∙ rest k (omega arith)

  -- all tasks have their times
  pub all_set : (us : List Task) (n : ℕ) → n ≡ length ts → lowest lacks 0 n ≡ None → length us ≡ length ts
      → ((k : ℕ) → k < n → get_or us k nobody ≡ with_time (get_or ts k nobody) (lax_time ts k)) → us ≡ tasks_after_laxity ts
  all_set us n all none long done =
      fill_by_all (λ k. with_time (get_or ts k nobody) (lax_time ts k)) us (length ts) nobody long (λ k h. done k (omega arith))
      ∙ ap (tasks_lax_by ts) (sym none ∙ ap (lowest lacks 0) all)
