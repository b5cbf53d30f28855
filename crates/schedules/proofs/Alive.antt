-- Live runs beside the full schedule.
use Rattle.std.proofs.Common.{◌≡◌, ℕ, zero, suc, ◌+◌, ◌≤◌, Bool, true, false, List, [], ◌∷◌, ◌++◌, length, get_or, replicate, IfSome, Some, None, fold, Option, sym, refl, ap, ◌∙◌, subst, inl, inr, add-zero, zero-add, arith}
use Rattle.std.proofs.lemmas.List.Sums.{fold_push}
use Rattle.std.proofs.lemmas.Bool.{cases_lt, cases_Bool, true≢false}
use Rattle.refusals.specs.declared.kinds.FinishRefusal.{FinishRefusal}
use Rattle.tables.specs.declared.task.Task.{Task}
use Rattle.tables.specs.Tasks.{nobody, Each, Timed}
use Rattle.orderings.specs.Meaning.{Meaning, Exclusive, Transitive}
use Rattle.schedules.specs.declared.call.Call.{Call}
use Rattle.schedules.specs.declared.call.Call.TheVariants.{Tick, FinishEarly, AskAge, AskLeft}
use Rattle.schedules.specs.declared.slot.Slot.{Slot}
use Rattle.schedules.specs.declared.verdict.Miss.{Miss}
use Rattle.schedules.specs.declared.verdict.Verdict.{Verdict}
use Rattle.schedules.specs.declared.verdict.Verdict.TheVariants.{Holds, Misses}
use Rattle.schedules.specs.Units.{at, late, missed}
use Rattle.schedules.specs.Runs.{State, fresh, closed, ticked, tick_miss, finish_fault, slots_finished, unit_end}
use Rattle.schedules.specs.Schedule.{full, full_miss, FirstMiss, SaysOfEndless}
use Rattle.schedules.specs.Live.{Live, miss_after, called, live, LiveStaysWithinFull, SaysOfEveryLiveRun}
use Rattle.firsts.proofs.Lowests.{lowest_none}
use Rattle.schedules.proofs.Endless.{going, going_counted}
use Rattle.schedules.proofs.Picks.{Counted}
use Rattle.schedules.proofs.Near.{Near, Follows, near_unit, near_renewed, near_late, near_finished}

module _ (ts : List Task) (m : Meaning) (few : length ts ≤ 32) (timed : Each Timed ts) (ex : Exclusive m) (tr : Transitive m) where
  -- every task is compared, and both run under one ordering
  abbrev all : ℕ → Bool
  all k = true

  follows : Follows all m m
  follows = record { same = λ i a j b p q ne h. h; over = λ i a j b p q. absurd (true≢false q) }

  -- where the second misses nothing, neither does the first
  near_missed : (xs ys : List Slot) → Near all xs ys → missed ts ys ≡ None → missed ts xs ≡ None
  near_missed xs ys n e =
      lowest_none (λ k. late (get_or ts k nobody) (at xs k)) (λ k. late (get_or ts k nobody) (at ys k))
      (λ k. near_late all ts xs ys n k refl) 0 (length xs) (rw n.long e)

  closed_on : (ss : List Slot) (o : Option ℕ) → (closed ts ss o).ended ≡ false → o ≡ None
  closed_on ss None e = refl
  closed_on ss (Some k) e = absurd (true≢false e)

  -- a tick after which a run goes on was made on one that went on, and missed nothing
  before_tick : (st : State) → (ticked ts m st).ended ≡ false → (st.ended ≡ false) × (missed ts (unit_end m st.slots) ≡ None)
  before_tick st e =
      elim (cases_Bool st.ended) [
        | inl t ↦ let f : (ticked ts m st).ended ≡ true = rw t refl in absurd (true≢false (sym f ∙ e))
        | inr f ↦ let e' : (closed ts (unit_end m st.slots) (missed ts (unit_end m st.slots))).ended ≡ false = rw f at e in
            (f, closed_on (unit_end m st.slots) (missed ts (unit_end m st.slots)) e')
      ]

  missed_nothing : (n : ℕ) → (full ts m n).ended ≡ false → (k : ℕ) → k ≤ n → full_miss ts m k ≡ None
  missed_nothing zero e k h = let z : k ≡ 0 = omega arith in ap (full_miss ts m) z
  missed_nothing (suc n) e k h =
      let b = before_tick (full ts m n) e in
      elim (cases_lt n k) [
        | inl last ↦ let z : k ≡ suc n = omega arith in ap (full_miss ts m) z ∙ rw b.0 b.1
        | inr early ↦ missed_nothing n b.0 k early
      ]

  counted : (n : ℕ) → (full ts m n).ended ≡ false → Counted (full ts m n).slots
  counted n e = going_counted ts m timed few n (going ts m timed n (missed_nothing n e))

  -- a tick keeps a live run beside the full schedule, as long as that misses nothing
  step : (l : State) (n : ℕ) → l.ended ≡ false → Near all l.slots (full ts m n).slots → (full ts m (suc n)).ended ≡ false
      → (missed ts (unit_end m l.slots) ≡ None) × ((ticked ts m l).ended ≡ false) × Near all (ticked ts m l).slots (full ts m (suc n)).slots
  step l n on near e =
      let b = before_tick (full ts m n) e in
      let ys = (full ts m n).slots in
      let unit = near_unit all m m follows ex tr ex tr l.slots ys near (counted n b.0) in
      let none = near_missed (unit_end m l.slots) (unit_end m ys) unit b.1 in
      (none, rw (on, none) refl, rw (on, none, b.0, b.1) (near_renewed all ts (unit_end m l.slots) (unit_end m ys) unit))

  -- beside the full schedule up to its first miss, and a miss of the live run only where that has come to one
  record Beside (l : Live) : Type 0 where
    pub near : (full ts m l.instant).ended ≡ false → (l.state.ended ≡ false) × Near all l.state.slots (full ts m l.instant).slots
    pub late : IfSome l.miss (λ y. (full ts m y.instant).ended ≡ true)

  late_tick : (l : Live) → Beside l → l.state.ended ≡ false → (o : Option ℕ) → missed ts (unit_end m l.state.slots) ≡ o
      → IfSome (miss_after l.miss (suc l.instant) o) (λ y. (full ts m y.instant).ended ≡ true)
  late_tick l h on None e = h.late
  late_tick l h on (Some i) e =
      elim (cases_Bool (full ts m (suc l.instant)).ended) [
        | inl t ↦ t
        | inr f ↦
            let b = before_tick (full ts m l.instant) f in
            let s = step l.state l.instant on (h.near b.0).1 f in
            let z : ◌≡◌ {A = ℕ} 0 1 = (let q : Some i ≡ None = sym e ∙ s.0 in cc) in
            absurd (let w : ⊥ = omega arith in w)
      ]

  beside_tick : (l : Live) → Beside l → (v : Bool) → l.state.ended ≡ v → Beside (called ts m l Tick)
  beside_tick l h true e = record { near = rw e (rw e at h.near); late = rw e h.late }
  beside_tick l h false e = record {
    near = rw e (λ f.
        let b = before_tick (full ts m l.instant) f in
        let s = step l.state l.instant e (h.near b.0).1 f in
        let r : ((ticked ts m l.state).ended ≡ false) × Near all (ticked ts m l.state).slots (full ts m (suc l.instant)).slots = (s.1, s.2) in
        rw e at r);
    late = rw e (late_tick l h e (missed ts (unit_end m l.state.slots)) refl);
  }

  near_finish : (xs ys : List Slot) (i : ℕ) (o : Option FinishRefusal) → Near all xs ys → Near all (slots_finished xs i o) ys
  near_finish xs ys i None n = near_finished all xs ys i n
  near_finish xs ys i (Some e) n = n

  beside_call : (l : Live) (c : Call) → Beside l → Beside (called ts m l c)
  beside_call l Tick h = beside_tick l h l.state.ended refl
  beside_call l (FinishEarly i) h = record {
    near = λ f. let g = h.near f in (g.0, near_finish l.state.slots (full ts m l.instant).slots i (finish_fault l.state i) g.1);
    late = h.late;
  }
  beside_call l (AskAge i) h = h
  beside_call l (AskLeft i) h = h

  beside_calls : (cs : List Call) (l : Live) → Beside l → Beside (fold (called ts m) l cs)
  beside_calls [] l h = h
  beside_calls (c ∷ cs) l h = beside_calls cs (called ts m l c) (beside_call l c h)

  beside : (cs : List Call) → Beside (live ts m cs)
  beside cs = beside_calls cs (record { state = fresh ts; instant = 0; miss = None }) (record {
    near = λ _. (refl, record { long = refl; aged = λ k. refl; less = λ k p. omega arith });
    late = tt;
  })

  pub stays_within : LiveStaysWithinFull ts m
  stays_within cs e i = let n = ((beside cs).near e).1 in (n.aged i, n.less i refl)

  late_at : (o : Option Miss) (y : Miss) → o ≡ Some y → IfSome o (λ z. (full ts m z.instant).ended ≡ true) → (full ts m y.instant).ended ≡ true
  late_at o y e h = let P : Option Miss → Type 0 = λ u. IfSome u (λ z. (full ts m z.instant).ended ≡ true) in subst P e h

  none_from : (o : Option Miss) → ((y : Miss) → o ≡ Some y → ⊥) → o ≡ None
  none_from None h = refl
  none_from (Some y) h = absurd (h y refl)

  -- the run of ticks alone
  ticks : (k j : ℕ) → ((i : ℕ) → i ≤ j + k → full_miss ts m i ≡ None)
      → fold (called ts m) (record { state = full ts m j; instant = j; miss = None }) (replicate k Tick) ≡ record { state = full ts m (j + k); instant = j + k; miss = None }
  ticks zero j none = ap (λ n. record { state = full ts m n; instant = n; miss = None }) (sym (add-zero j))
  ticks (suc k) j none =
      let on = (going ts m timed j (λ i h. none i (omega arith))).on in
      let miss : tick_miss ts m (full ts m j) ≡ None = none (suc j) (omega arith) in
      let one : called ts m (record { state = full ts m j; instant = j; miss = None }) Tick ≡ record { state = full ts m (suc j); instant = suc j; miss = None } = rw (miss, on) in
      ap (λ l. fold (called ts m) l (replicate k Tick)) one
      ∙ ticks k (suc j) (λ i h. none i (omega arith))
      ∙ ap (λ n. record { state = full ts m n; instant = n; miss = None }) (let e : suc j + k ≡ j + suc k = omega arith in e)

  ticks_miss : (i n : ℕ) → FirstMiss ts m i n → (cs : List Call) × ((live ts m cs).miss ≡ Some (record { task = i; instant = n }))
  ticks_miss i zero first = let z : ◌≡◌ {A = ℕ} 0 1 = (let q = first.0 in cc) in absurd (let w : ⊥ = omega arith in w)
  ticks_miss i (suc p) first =
      let all = ticks p 0 (λ k h. first.1 k (omega arith)) in
      let at_p : live ts m (replicate p Tick) ≡ record { state = full ts m p; instant = p; miss = None } =
      all ∙ ap (λ n. record { state = full ts m n; instant = n; miss = None }) (zero-add p) in (
        replicate p Tick ++ (Tick ∷ []),
        ap (λ l. l.miss) (fold_push (called ts m) (record { state = fresh ts; instant = 0; miss = None }) (replicate p Tick) Tick)
            ∙ ap (λ l. (called ts m l Tick).miss) at_p
            ∙ ap (miss_after None (suc p)) first.0,
      )

  pub says_of_live : (v : Verdict) → SaysOfEndless ts m v → SaysOfEveryLiveRun ts m v
  says_of_live Holds never = λ cs.
      none_from (live ts m cs).miss (λ y e.
      let t = late_at (live ts m cs).miss y e (beside cs).late in
      let f = (going ts m timed y.instant (λ k h. never k)).on in
      true≢false (sym t ∙ f))
  says_of_live (Misses x) first = (
    ticks_miss x.task x.instant first,
    λ cs y e.
        let t = late_at (live ts m cs).miss y e (beside cs).late in
        elim (cases_lt y.instant x.instant) [
          | inl early ↦ let f = (going ts m timed y.instant (λ k h. first.1 k (omega arith))).on in absurd (true≢false (sym t ∙ f))
          | inr late ↦ late
        ],
  )
