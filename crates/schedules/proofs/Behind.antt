-- A table that holds under an ordering holds under the background layer with its own list, too.
use Rattle.std.proofs.Common.{◌≡◌, ℕ, zero, suc, ◌<◌, ◌≤◌, Bool, true, false, not, ◌&&◌, eqb, ◌≢◌, List, length, get_or, is_some, Some, None, Option, sym, refl, ap, ◌∙◌, subst, inl, inr, arith}
use Rattle.std.proofs.lemmas.List.{length-map}
use Rattle.std.proofs.lemmas.Bool.{cases_lt, cases_Bool, cond-false, eq-eqb, ne_eqb, true≢false, false≢true}
use Rattle.std.proofs.lemmas.Bool.Decides.{nat_tests}
use Rattle.tables.specs.declared.task.Task.{Task}
use Rattle.tables.specs.Tasks.{nobody, Each, Timed}
use Rattle.orderings.specs.Meaning.{Meaning, Exclusive, Transitive}
use Rattle.orderings.specs.Places.{place_in}
use Rattle.orderings.specs.Background.{stands_later, background}
use Rattle.orderings.specs.Laws.{Lawful}
use Rattle.orderings.specs.Placed.{place_apart}
use Rattle.orderings.specs.Backed.{background_lawful}
use Rattle.firsts.proofs.Lowests.{lowest_fails, lowest_none_fails}
use Rattle.viability.specs.Viable.{is_in}
use Rattle.viability.specs.OwnList.{own_list}
use Rattle.viability.proofs.Owned.{not_before, own_viable, viable_response}
use Rattle.schedules.specs.Units.{at, picked, served, older, late, missed, renewed}
use Rattle.schedules.specs.Runs.{unit_end}
use Rattle.schedules.specs.Schedule.{full, full_miss, NeverMisses, verdict_of}
use Rattle.schedules.specs.declared.verdict.Verdict.TheVariants.{Holds}
use Rattle.tables.specs.Hyperperiod.{hyperperiod_of}
use Rattle.schedules.proofs.Served.{spent_length}
use Rattle.schedules.proofs.Endless.{going, going_counted, after_no_miss}
use Rattle.schedules.proofs.Near.{Near, Follows, near_unit, near_renewed, near_late}
use Rattle.schedules.proofs.Responds.{meets}
use Rattle.schedules.proofs.Judged.{judged_never}

-- of two different tasks, by their places in the list
module _ (xs : List ℕ) (m : Meaning) (i a j b : ℕ) (ne : i ≢ j) where
  by_places : background xs m i a j b ≡ stands_later (place_in xs i) (place_in xs j) (m i a j b)
  by_places = cond-false (eqb i j) false _ (ne_eqb i j ne)

  -- i is not taken before the place of j
  later_ahead : (p : ℕ) → place_in xs j ≡ Some p → (o : Option ℕ) → place_in xs i ≡ o → not_before p o ≡ true → background xs m i a j b ≡ true
  later_ahead p e None f h = by_places ∙ rw (e, f) refl
  later_ahead p e (Some q) f h =
      let apart : q ≢ p = λ s. place_apart xs i j ne p (f ∙ ap Some s) e in
      by_places ∙ rw (e, f) (grind (arith, nat_tests))

  -- j is taken before the place of i
  earlier_behind : (p : ℕ) → place_in xs i ≡ Some p → (o : Option ℕ) → place_in xs j ≡ o → not_before p o ≡ false → background xs m i a j b ≡ true
  earlier_behind p e None f h = absurd (true≢false h)
  earlier_behind p e (Some q) f h = by_places ∙ rw (e, f) (grind (arith, nat_tests))

module _ (ts : List Task) (m : Meaning) (few : length ts ≤ 32) (timed : Each Timed ts) (ex : Exclusive m) (tr : Transitive m) where
  abbrev list : List ℕ
  list = own_list ts

  abbrev layer : Meaning
  layer = background list m

  lawful : Lawful layer
  lawful = background_lawful list m ex tr

  abbrev outside : ℕ → Bool
  outside k = not (is_some (place_in list k))

  out_none : (o : Option ℕ) → not (is_some o) ≡ true → o ≡ None
  out_none None e = refl
  out_none (Some p) e = absurd (false≢true e)

  in_some : (o : Option ℕ) → not (is_some o) ≡ false → (p : ℕ) × (o ≡ Some p)
  in_some None e = absurd (true≢false e)
  in_some (Some p) e = (p, refl)

  follows : Follows outside layer m
  follows = record {
    same = λ i a j b p q ne h. by_places list m i a j b ne ∙ rw (out_none (place_in list i) p, out_none (place_in list j) q) h;
    over = λ i a j b p q.
        let ne : i ≢ j = λ e. true≢false (sym p ∙ ap outside e ∙ q) in
        let place = in_some (place_in list j) q in
        by_places list m i a j b ne ∙ rw (out_none (place_in list i) p, place.1) refl;
  }

  -- a task of the list is not late
  listed_meets : (n b p : ℕ) → place_in list b ≡ Some p → ((k : ℕ) → k ≤ n → full_miss ts layer k ≡ None) → late (get_or ts b nobody) (at (unit_end layer (full ts layer n).slots) b) ≡ false
  listed_meets n b p e none =
      let v = own_viable ts b p e in
      let members = v.0 in
      let r = viable_response ts members b v.3 in
      let hp : ℕ → Bool = λ j. is_in members j && not (eqb j b) in
      meets ts layer few timed lawful.exclusive lawful.transitive hp b r.0 v.1
      (rw (eq-eqb b b refl) (let f : (is_in members b && false) ≡ false = grind (arith, nat_tests) in f))
      (λ j a β h q.
      let parts : (is_in members j ≡ true) × (eqb j b ≡ false) = grind (arith, nat_tests) in
      let ne : j ≢ b = λ s. true≢false (sym (eq-eqb j b s) ∙ parts.1) in
      later_ahead list m j a b β ne p e (place_in list j) refl (sym (v.4 j h) ∙ parts.0))
      (λ j a β h ne q.
      let out : is_in members j ≡ false = (let f = ne_eqb j b ne in grind (arith, nat_tests)) in
      earlier_behind list m b β j a (λ s. ne (sym s)) p e (place_in list j) refl (sym (v.4 j h) ∙ out))
      r.2 r.3 n none

  module _ (holds : NeverMisses ts m) where
    unit_near : (n : ℕ) → Near outside (full ts layer n).slots (full ts m n).slots → Near outside (unit_end layer (full ts layer n).slots) (unit_end m (full ts m n).slots)
    unit_near n near =
        near_unit outside layer m follows lawful.exclusive lawful.transitive ex tr (full ts layer n).slots (full ts m n).slots near
        (going_counted ts m timed few n (going ts m timed n (λ k h. holds k)))

    -- outside the list the layer leaves no more units than the ordering itself
    stays_near : (n : ℕ) → ((k : ℕ) → k ≤ n → full_miss ts layer k ≡ None) → Near outside (full ts layer n).slots (full ts m n).slots
    stays_near zero none = record { long = refl; aged = λ k. refl; less = λ k p. omega arith }
    stays_near (suc n) none =
        let before : (k : ℕ) → k ≤ n → full_miss ts layer k ≡ None = λ k h. none k (omega arith) in
        let unit = near_renewed outside ts (unit_end layer (full ts layer n).slots) (unit_end m (full ts m n).slots) (unit_near n (stays_near n before)) in
        let x = ap (λ st. st.slots) (after_no_miss ts layer timed n (going ts layer timed n before).on (none (suc n) (omega arith))) in
        let y = ap (λ st. st.slots) (after_no_miss ts m timed n (going ts m timed n (λ k h. holds k)).on (holds (suc n))) in
        subst (λ s. Near outside s (full ts m (suc n)).slots) (sym x) (subst (λ s. Near outside (renewed ts (unit_end layer (full ts layer n).slots)) s) (sym y) unit)

    others_meet : (n k : ℕ) → outside k ≡ true → k < length ts → ((j : ℕ) → j ≤ n → full_miss ts layer j ≡ None) → late (get_or ts k nobody) (at (unit_end layer (full ts layer n).slots) k) ≡ false
    others_meet n k out h none =
        let near = unit_near n (stays_near n none) in
        let g = going ts m timed n (λ j l. holds j) in
        let end = unit_end m (full ts m n).slots in
        let long : length end ≡ length ts = length-map (served m (full ts m n).slots) older ∙ spent_length (picked m (full ts m n).slots) (full ts m n).slots ∙ g.long in
        let on = g.on in
        let miss : full_miss ts m (suc n) ≡ None = holds (suc n) in
        let missed-none : missed ts end ≡ None = rw on at miss in
        let fine = lowest_none_fails (λ j. late (get_or ts j nobody) (at end j)) 0 (length end) missed-none k (omega arith) (omega arith) in
        elim (cases_Bool (late (get_or ts k nobody) (at (unit_end layer (full ts layer n).slots) k))) [
          | inr no-miss ↦ no-miss
          | inl bad ↦ absurd (true≢false (sym (near_late outside ts (unit_end layer (full ts layer n).slots) end near k out bad) ∙ fine))
        ]

    next_meets : (n : ℕ) → ((k : ℕ) → k ≤ n → full_miss ts layer k ≡ None) → full_miss ts layer (suc n) ≡ None
    next_meets n none =
        let g = going ts layer timed n none in
        let ss = (full ts layer n).slots in
        let long : length (unit_end layer ss) ≡ length ts = length-map (served layer ss) older ∙ spent_length (picked layer ss) ss ∙ g.long in
        let all : missed ts (unit_end layer ss) ≡ None = lowest_fails (λ k. late (get_or ts k nobody) (at (unit_end layer ss) k)) 0 (length (unit_end layer ss)) (λ k low high.
        elim (cases_Bool (outside k)) [
          | inl out ↦ others_meet n k out (omega arith) none
          | inr listed ↦ let place = in_some (place_in list k) listed in listed_meets n k place.0 place.1 none
        ]) in
        rw g.on all

    none_by : (n k : ℕ) → k ≤ n → full_miss ts layer k ≡ None
    none_by zero k h = let z : k ≡ 0 = omega arith in ap (full_miss ts layer) z
    none_by (suc n) k h = elim (cases_lt n k) [
      | inl last ↦ let z : k ≡ suc n = omega arith in ap (full_miss ts layer) z ∙ next_meets n (none_by n)
      | inr early ↦ none_by n k early
    ]

    pub holds_behind : verdict_of ts layer ≡ Holds
    holds_behind = judged_never ts layer (λ n. none_by n n (omega arith)) (hyperperiod_of ts) 0
