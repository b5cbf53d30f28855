-- One hyperperiod without a miss brings the full schedule back to the new run, so it never misses.
use Rattle.std.proofs.Common.{◌≡◌, ℕ, zero, suc, ◌+◌, ◌-◌, ◌%◌, ◌<◌, ◌≤◌, false, cond, eqb, List, map, length, get_or, None, sym, refl, ap, ◌∙◌, inl, inr, mod-lt, mod-eq_of_lt, suc-add, zero-add, arith}
use native.Mathlib.Nat.{suc-mod, mod_self, mod-eq-zero_of_dvd, zero-mod}
use Rattle.std.proofs.lemmas.List.{length-map, ext_get_or, get_or-map}
use Rattle.std.proofs.lemmas.Bool.{cases_eq, cases_lt, cond-true, cond-false, eq-eqb, ne_eqb}
use Rattle.std.proofs.lemmas.Bool.Decides.{nat_tests}
use Rattle.tables.specs.declared.task.Task.{Task}
use Rattle.tables.specs.Tasks.{nobody, Each, Timed}
use Rattle.tables.specs.Hyperperiod.{CommonMultiple}
use Rattle.orderings.specs.Meaning.{Meaning}
use Rattle.schedules.specs.declared.slot.Slot.{Slot}
use Rattle.schedules.specs.Units.{nothing, at, picked, served, older, missed, renew, renewed, released}
use Rattle.schedules.specs.Runs.{State, fresh, ticked, tick_miss}
use Rattle.schedules.specs.Schedule.{full, full_miss, NeverMisses}
use Rattle.schedules.proofs.Slots.{older_at, renewed_at, renewed_length}
use Rattle.schedules.proofs.Served.{spent_length, spent_age}
use Rattle.schedules.proofs.Picks.{Counted}

-- counting up modulo T: the next number, or 0 at T
pub mod_step : (n T : ℕ) → 1 ≤ T → suc n % T ≡ cond (eqb (n % T + 1) T) 0 (n % T + 1)
mod_step n T pos =
    let l : n % T < T = mod-lt n (omega arith) in
    elim (cases_eq (n % T + 1) T) [
      | inl e ↦ let f : suc (n % T) ≡ T = omega arith in
          suc-mod n T ∙ ap (λ k. k % T) f ∙ mod_self T ∙ sym (cond-true _ _ _ (eq-eqb (n % T + 1) T e))
      | inr ne ↦ let f : suc (n % T) < T = omega arith in
          suc-mod n T ∙ mod-eq_of_lt f ∙ (let g : suc (n % T) ≡ n % T + 1 = omega arith in g) ∙ sym (cond-false _ _ _ (ne_eqb (n % T + 1) T ne))
    ]

-- a slot after a unit, where none missed
module _ (t : Task) (s : Slot) where
  renew_age : (renew t (older s)).age ≡ cond (eqb (s.age + 1) t.t) 0 (s.age + 1)
  renew_age = grind (arith, nat_tests)

  -- only a release gives age 0
  renew_zero : (renew t (older s)).age ≡ 0 → renew t (older s) ≡ released t
  renew_zero e = elim (cases_eq (s.age + 1) t.t) [
    | inl same ↦ cond-true _ _ _ (eq-eqb (s.age + 1) t.t same)
    | inr ne ↦ let f = cond-false (eqb (s.age + 1) t.t) (released t) (older s) (ne_eqb (s.age + 1) t.t ne) in
        let g : s.age + 1 ≡ 0 = sym (ap (λ x. x.age) f) ∙ e in absurd (let z : ⊥ = omega arith in z)
  ]

state_is : (st : State) → st.ended ≡ false → st ≡ record { slots = st.slots; ended = false }
state_is st e = ap (λ b. record { slots = st.slots; ended = b }) e

module _ (ts : List Task) (m : Meaning) (timed : Each Timed ts) where
  -- the full schedule at an instant up to which no tick missed
  pub record Going (n : ℕ) : Type 0 where
    pub on : (full ts m n).ended ≡ false
    pub long : length (full ts m n).slots ≡ length ts
    pub aged : (k : ℕ) → k < length ts → (at (full ts m n).slots k).age ≡ n % (get_or ts k nobody).t
    pub new : (k : ℕ) → k < length ts → (at (full ts m n).slots k).age ≡ 0 → at (full ts m n).slots k ≡ released (get_or ts k nobody)

  going_start : Going 0
  going_start = record {
    on = refl;
    long = length-map ts released;
    aged = λ k h. ap (λ s. s.age) (get_or-map released ts k nobody nothing h) ∙ sym (zero-mod (get_or ts k nobody).t);
    new = λ k h e. get_or-map released ts k nobody nothing h;
  }

  -- the state after a tick that misses nothing
  pub after_no_miss : (n : ℕ) → (full ts m n).ended ≡ false → full_miss ts m (suc n) ≡ None → full ts m (suc n) ≡ record { slots = renewed ts (map older (served m (full ts m n).slots)); ended = false }
  after_no_miss n on none =
      let none' : missed ts (map older (served m (full ts m n).slots)) ≡ None = rw on at none in
      rw (on, none')

  -- a slot after a tick that misses nothing
  pub slot_next : (n : ℕ) → Going n → full_miss ts m (suc n) ≡ None → (k : ℕ) → k < length ts → at (full ts m (suc n)).slots k ≡ renew (get_or ts k nobody) (older (at (served m (full ts m n).slots) k))
  slot_next n g none k h =
      let ss = (full ts m n).slots in
      let sp = served m ss in
      let n₁ : length sp ≡ length ts = spent_length (picked m ss) ss ∙ g.long in
      let n₂ : length (map older sp) ≡ length ts = length-map sp older ∙ n₁ in
      ap (λ st. at st.slots k) (after_no_miss n g.on none)
      ∙ renewed_at ts (map older sp) k (omega arith)
      ∙ ap (renew (get_or ts k nobody)) (older_at sp k (omega arith))

  going_step : (n : ℕ) → Going n → full_miss ts m (suc n) ≡ None → Going (suc n)
  going_step n g none =
      let ss = (full ts m n).slots in
      let sp = served m ss in
      let after = after_no_miss n g.on none in
      let place = slot_next n g none in
      record {
        on = ap (λ st. st.ended) after;
        long = ap (λ st. length st.slots) after ∙ renewed_length ts (map older sp) ∙ length-map sp older ∙ spent_length (picked m ss) ss ∙ g.long;
        aged = λ k h.
            let t = get_or ts k nobody in
            let bounds = timed k h in
            let age : (at sp k).age ≡ n % t.t = spent_age (picked m ss) ss k ∙ g.aged k h in
            ap (λ s. s.age) (place k h) ∙ renew_age t (at sp k) ∙ ap (λ a. cond (eqb (a + 1) t.t) 0 (a + 1)) age ∙ sym (mod_step n t.t (omega arith));
        new = λ k h e. place k h ∙ renew_zero (get_or ts k nobody) (at sp k) (ap (λ s. s.age) (sym (place k h)) ∙ e);
      }

  pub going : (n : ℕ) → ((k : ℕ) → k ≤ n → full_miss ts m k ≡ None) → Going n
  going zero none = going_start
  going (suc n) none = going_step n (going n (λ k h. none k (omega arith))) (none (suc n) (omega arith))

  -- its numbers and ages are such as the laws are asked for
  pub going_counted : length ts ≤ 32 → (n : ℕ) → Going n → Counted (full ts m n).slots
  going_counted few n g = record {
    few = let long = g.long in omega arith;
    aged = λ k h.
        let h' : k < length ts = let long = g.long in omega arith in
        let t = timed k h' in
        let l = mod-lt n {m = (get_or ts k nobody).t} (omega arith) in
        let a = g.aged k h' in
        omega arith;
  }

  -- after a common multiple of the periods every job is new
  back_to_fresh : (H : ℕ) → CommonMultiple ts H → Going H → full ts m H ≡ fresh ts
  back_to_fresh H divides g =
      let same : (full ts m H).slots ≡ map released ts = ext_get_or nothing (full ts m H).slots (map released ts) (g.long ∙ sym (length-map ts released))
      (λ k h.
      let h' : k < length ts = omega (arith, g.long) in
      let zero-age : (at (full ts m H).slots k).age ≡ 0 = g.aged k h' ∙ mod-eq-zero_of_dvd (get_or ts k nobody).t (divides k h') in
      g.new k h' zero-age ∙ sym (get_or-map released ts k nobody nothing h')) in
      state_is (full ts m H) g.on ∙ ap (λ ss. record { slots = ss; ended = false }) same

  module _ (H : ℕ) (pos : 1 ≤ H) (back : full ts m H ≡ fresh ts) (none : (k : ℕ) → k ≤ H → full_miss ts m k ≡ None) where
    repeats : (n : ℕ) → full ts m (n + H) ≡ full ts m n
    repeats zero = ap (full ts m) (zero-add H) ∙ back
    repeats (suc n) = ap (full ts m) (suc-add n H) ∙ ap (ticked ts m) (repeats n)

    never_within : (fuel n : ℕ) → n ≤ fuel → full_miss ts m n ≡ None
    never_within fuel zero h = refl
    never_within zero (suc n) h = absurd (let z : ⊥ = omega arith in z)
    never_within (suc fuel) (suc n) h = elim (cases_lt n H) [
      | inl low ↦ none (suc n) (omega arith)
      | inr high ↦
          let split : n ≡ (n - H) + H = omega arith in
          ap (λ k. tick_miss ts m (full ts m k)) split ∙ ap (tick_miss ts m) (repeats (n - H)) ∙ never_within fuel (suc (n - H)) (omega arith)
    ]

    never : NeverMisses ts m
    never n = never_within n n (omega arith)

  -- one hyperperiod decides
  pub never_misses : (H : ℕ) → 1 ≤ H → CommonMultiple ts H → ((k : ℕ) → k ≤ H → full_miss ts m k ≡ None) → NeverMisses ts m
  never_misses H pos divides none = never H pos (back_to_fresh H divides (going H none)) none
