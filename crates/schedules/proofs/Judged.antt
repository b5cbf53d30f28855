-- The verdict's loop: one tick more of the full schedule.
use Rattle.std.proofs.Common.{◌≡◌, ℕ, zero, suc, ◌+◌, ◌-◌, ◌<◌, ◌≤◌, false, List, Some, None, Ok, Err, Option, Result, sym, refl, ap, ◌∙◌, add-one, arith}
use Rattle.std.specs.Option.{option_map}
use Rattle.refusals.specs.declared.kinds.TickRefusal.{TickRefusal}
use Rattle.tables.specs.declared.task.Task.{Task}
use Rattle.orderings.specs.Meaning.{Meaning}
use Rattle.schedules.specs.declared.verdict.Verdict.TheVariants.{Holds, Misses}
use Rattle.schedules.specs.Units.{picked}
use Rattle.schedules.specs.Runs.{State, ticked, tick_miss, tick_answer}
use Rattle.schedules.specs.Schedule.{full, full_miss, NeverMisses, judged}

module _ (ts : List Task) (m : Meaning) where
  -- what a tick of a run that goes on answers
  going_answer : (st : State) → st.ended ≡ false → tick_answer ts m st ≡ Ok (option_map (λ j. j.task) (picked m st.slots), tick_miss ts m st)
  going_answer st on = rw on

  pub answer_miss : (st : State) (ran miss : Option ℕ) → st.ended ≡ false → Ok (ran, miss) ≡ tick_answer ts m st → tick_miss ts m st ≡ miss
  answer_miss st ran miss on e =
      let f : ◌≡◌ {A = Result (Option ℕ × Option ℕ) TickRefusal} (Ok (ran, miss)) (Ok (option_map (λ j. j.task) (picked m st.slots), tick_miss ts m st)) = e ∙ going_answer st on in
      let pair : ◌≡◌ {A = Option ℕ × Option ℕ} (ran, miss) (option_map (λ j. j.task) (picked m st.slots), tick_miss ts m st) = cc in
      sym (ap (λ x. x.1) pair)

  pub answer_refused : (st : State) (e : TickRefusal) → st.ended ≡ false → Err e ≡ tick_answer ts m st → ⊥
  answer_refused st r on e =
      let f : ◌≡◌ {A = Result (Option ℕ × Option ℕ) TickRefusal} (Err r) (Ok (option_map (λ j. j.task) (picked m st.slots), tick_miss ts m st)) = e ∙ going_answer st on in
      let z : ◌≡◌ {A = ℕ} 0 1 = cc in omega arith

  module _ (H n : ℕ) (st : State) where
    judged_next : n < H → judged ts m None (H - n) n st ≡ judged ts m (tick_miss ts m st) (H - (n + 1)) (n + 1) (ticked ts m st)
    judged_next h =
        let e : H - n ≡ suc (H - (n + 1)) = omega arith in
        ap (λ f. judged ts m None f n st) e ∙ ap (λ k. judged ts m (tick_miss ts m st) (H - (n + 1)) k (ticked ts m st)) (sym (add-one n))

    pub judged_miss : (i : ℕ) → n < H → tick_miss ts m st ≡ Some i → judged ts m None (H - n) n st ≡ Misses (record { task = i; instant = n + 1 })
    judged_miss i h e = judged_next h ∙ ap (λ o. judged ts m o (H - (n + 1)) (n + 1) (ticked ts m st)) e

    pub judged_more : n < H → tick_miss ts m st ≡ None → judged ts m None (H - n) n st ≡ judged ts m None (H - (n + 1)) (n + 1) (ticked ts m st)
    judged_more h e = judged_next h ∙ ap (λ o. judged ts m o (H - (n + 1)) (n + 1) (ticked ts m st)) e

    pub judged_end : H ≤ n → judged ts m None (H - n) n st ≡ Holds
    judged_end h = let e : H - n ≡ 0 = omega arith in ap (λ f. judged ts m None f n st) e

  pub miss_next : (n : ℕ) → full_miss ts m (n + 1) ≡ tick_miss ts m (full ts m n)
  miss_next n = ap (full_miss ts m) (add-one n)

  pub full_next : (n : ℕ) → full ts m (n + 1) ≡ ticked ts m (full ts m n)
  full_next n = ap (full ts m) (add-one n)

  -- where no tick misses, the verdict is holds, however many are looked at
  pub judged_never : NeverMisses ts m → (fuel n : ℕ) → judged ts m None fuel n (full ts m n) ≡ Holds
  judged_never never zero n = refl
  judged_never never (suc fuel) n =
      ap (λ o. judged ts m o fuel (suc n) (full ts m (suc n))) (never (suc n)) ∙ judged_never never fuel (suc n)
