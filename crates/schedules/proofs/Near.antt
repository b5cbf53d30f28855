-- Two lists of slots with equal ages, of which the first has no more units left at the tasks of a set: a unit keeps that.
use Rattle.std.proofs.Common.{◌≡◌, ℕ, ◌+◌, ◌<◌, ◌≤◌, Bool, true, false, not, ◌≢◌, List, map, length, get_or, set, Some, None, Option, sym, refl, ap, ◌∙◌, subst, inl, inr, arith}
use Rattle.std.proofs.lemmas.List.{length-map, length-set}
use Rattle.std.proofs.lemmas.Bool.{cases_eq, cases_lt, cases_Bool, true≢false}
use Rattle.std.proofs.lemmas.Bool.Decides.{nat_tests}
use Rattle.tables.specs.declared.task.Task.{Task}
use Rattle.tables.specs.Tasks.{nobody}
use Rattle.orderings.specs.Meaning.{Meaning, InRange, Exclusive, Transitive}
use Rattle.schedules.specs.declared.slot.Slot.{Slot}
use Rattle.firsts.specs.declared.job.Job.{Job}
use Rattle.schedules.specs.Units.{at, Ready, picked, spent, served, older, late, renew, renewed}
use Rattle.schedules.proofs.Slots.{put_age, put_left, older_at, older_past, renewed_at, renewed_length, renewed_past}
use Rattle.schedules.proofs.Served.{spent_length, spent_age, spent_left}
use Rattle.schedules.proofs.Picks.{Counted, ready_within, picks}

-- equal ages everywhere, and no more units left at the tasks of the set P
pub record Near (P : ℕ → Bool) (xs ys : List Slot) : Type 0 where
  pub long : length xs ≡ length ys
  pub aged : (k : ℕ) → (at xs k).age ≡ (at ys k).age
  pub less : (k : ℕ) → P k ≡ true → (at xs k).left ≤ (at ys k).left

renew_aged : (t : Task) (x y : Slot) → x.age ≡ y.age → (renew t x).age ≡ (renew t y).age
renew_aged t x y h = grind (arith, nat_tests)

renew_less : (t : Task) (x y : Slot) → x.age ≡ y.age → x.left ≤ y.left → (renew t x).left ≤ (renew t y).left
renew_less t x y e h = grind (arith, nat_tests)

late_less : (t : Task) (x y : Slot) → x.age ≡ y.age → x.left ≤ y.left → late t x ≡ true → late t y ≡ true
late_less t x y e h l = grind (arith, nat_tests)

module _ (P : ℕ → Bool) where
  pub near_counted : (xs ys : List Slot) → Near P xs ys → Counted ys → Counted xs
  near_counted xs ys n c = record {
    few = let few = c.few in let long = n.long in omega arith;
    aged = λ k h. subst InRange (sym (n.aged k)) (c.aged k (subst (λ l. k < l) n.long h));
  }

  near_older : (xs ys : List Slot) → Near P xs ys → Near P (map older xs) (map older ys)
  near_older xs ys n = record {
    long = length-map xs older ∙ n.long ∙ sym (length-map ys older);
    aged = λ k. elim (cases_lt k (length xs)) [
      | inl lt ↦ rw (older_at xs k lt, older_at ys k (subst (λ x. k < x) n.long lt)) (ap (λ a. a + 1) (n.aged k))
      | inr le ↦ rw (older_past xs k le, older_past ys k (subst (λ x. x ≤ k) n.long le)) refl
    ];
    less = λ k p. elim (cases_lt k (length xs)) [
      | inl lt ↦ rw (older_at xs k lt, older_at ys k (subst (λ x. k < x) n.long lt)) (n.less k p)
      | inr le ↦ rw (older_past xs k le, older_past ys k (subst (λ x. x ≤ k) n.long le)) (omega arith)
    ];
  }

  pub near_renewed : (ts : List Task) (xs ys : List Slot) → Near P xs ys → Near P (renewed ts xs) (renewed ts ys)
  near_renewed ts xs ys n = record {
    long = renewed_length ts xs ∙ n.long ∙ sym (renewed_length ts ys);
    aged = λ k. elim (cases_lt k (length xs)) [
      | inl lt ↦ rw (renewed_at ts xs k lt, renewed_at ts ys k (subst (λ x. k < x) n.long lt)) (renew_aged (get_or ts k nobody) (at xs k) (at ys k) (n.aged k))
      | inr le ↦ rw (renewed_past ts xs k le, renewed_past ts ys k (subst (λ x. x ≤ k) n.long le)) refl
    ];
    less = λ k p. elim (cases_lt k (length xs)) [
      | inl lt ↦ rw (renewed_at ts xs k lt, renewed_at ts ys k (subst (λ x. k < x) n.long lt)) (renew_less (get_or ts k nobody) (at xs k) (at ys k) (n.aged k) (n.less k p))
      | inr le ↦ rw (renewed_past ts xs k le, renewed_past ts ys k (subst (λ x. x ≤ k) n.long le)) (omega arith)
    ];
  }

  -- a task of the set that is late in the first is late in the second
  pub near_late : (ts : List Task) (xs ys : List Slot) → Near P xs ys → (k : ℕ) → P k ≡ true → late (get_or ts k nobody) (at xs k) ≡ true → late (get_or ts k nobody) (at ys k) ≡ true
  near_late ts xs ys n k p = late_less (get_or ts k nobody) (at xs k) (at ys k) (n.aged k) (n.less k p)

  -- an early finish of the first
  pub near_finished : (xs ys : List Slot) (i : ℕ) → Near P xs ys → Near P (set xs i (record { age = (at xs i).age; left = 0 })) ys
  near_finished xs ys i n = record {
    long = length-set xs i _ ∙ n.long;
    aged = λ k. put_age xs i (λ _. 0) refl k ∙ n.aged k;
    less = λ k p. let u = put_left xs i (λ _. 0) refl k in let c = n.less k p in grind (arith, nat_tests);
  }

-- The first runs under f and the second under g. Within the set P whoever is ahead by g is so by f, and by f the tasks of P
-- are ahead of the others.
pub record Follows (P : ℕ → Bool) (f g : Meaning) : Type 0 where
  pub same : (i a j b : ℕ) → P i ≡ true → P j ≡ true → i ≢ j → g i a j b ≡ true → f i a j b ≡ true
  pub over : (i a j b : ℕ) → P i ≡ true → P j ≡ false → f i a j b ≡ true

none_left : (m : Meaning) → Exclusive m → Transitive m → (ss : List Slot) → Counted ss → picked m ss ≡ None → (k : ℕ) → (at ss k).left ≡ 0
none_left m ex tr ss c e k = let idle : Ready ss k → ⊥ = picks m ex tr ss c None e k in omega arith

module _ (P : ℕ → Bool) (f g : Meaning) (follows : Follows P f g) (fex : Exclusive f) (ftr : Transitive f) (gex : Exclusive g) (gtr : Transitive g) where
  -- no job is ahead of a ready job of the set that the second serves
  not_ahead : (xs ys : List Slot) → Near P xs ys → Counted xs → Counted ys → (l h : Job) → picked f xs ≡ Some l → picked g ys ≡ Some h → P h.task ≡ true → l.task ≢ h.task
      → Ready xs h.task → f h.task (at xs h.task).age l.task (at xs l.task).age ≡ true
  not_ahead xs ys n cx cy l h e d p ne r =
      elim (cases_Bool (P l.task)) [
        | inl q ↦
            let pl = (picks f fex ftr xs cx (Some l) e).0 in
            let less = n.less l.task q in
            let b : g h.task (at ys h.task).age l.task (at ys l.task).age ≡ true = (picks g gex gtr ys cy (Some h) d).1 l.task (omega arith) ne in
            let b' = follows.same h.task (at ys h.task).age l.task (at ys l.task).age p q (λ u. ne (sym u)) b in
            subst (λ u. f h.task u l.task (at xs l.task).age ≡ true) (sym (n.aged h.task))
            (subst (λ u. f h.task (at ys h.task).age l.task u ≡ true) (sym (n.aged l.task)) b')
        | inr q ↦ follows.over h.task (at xs h.task).age l.task (at xs l.task).age p q
      ]

  -- where the two pick different tasks, the second's pick has no units left in the first, if it is in the set
  no_units : (xs ys : List Slot) → Near P xs ys → Counted xs → Counted ys → (l h : Job) → picked f xs ≡ Some l → picked g ys ≡ Some h → P h.task ≡ true → l.task ≢ h.task → (at xs h.task).left ≡ 0
  no_units xs ys n cx cy l h e d p ne =
      let pl = picks f fex ftr xs cx (Some l) e in
      let busy : Ready xs h.task → ⊥ = λ r.
      let a = pl.1 h.task r (λ q. ne (sym q)) in
      let b = not_ahead xs ys n cx cy l h e d p ne r in
      let wl = ready_within xs l.task pl.0 in
      let wh = ready_within xs h.task r in
      let few = cx.few in
      let law = fex l.task (at xs l.task).age h.task (at xs h.task).age (omega arith) (cx.aged l.task wl) (omega arith) (cx.aged h.task wh) ne in
      true≢false (sym b ∙ law ∙ ap not a) in
      omega arith

  left_spent : (xs ys : List Slot) → Near P xs ys → Counted xs → Counted ys → (p q : Option Job) → picked f xs ≡ p → picked g ys ≡ q → (k : ℕ) → P k ≡ true → (at (spent p xs) k).left ≤ (at (spent q ys) k).left
  left_spent xs ys n cx cy None None e d k p = n.less k p
  left_spent xs ys n cx cy None (Some j) e d k p = let z = none_left f fex ftr xs cx e k in omega arith
  left_spent xs ys n cx cy (Some l) None e d k p = let z = none_left g gex gtr ys cy d k in let u = spent_left l xs k in let c = n.less k p in grind (arith, nat_tests)
  left_spent xs ys n cx cy (Some l) (Some h) e d k p =
      let u = spent_left l xs k in
      let v = spent_left h ys k in
      let c = n.less k p in
      elim (cases_eq l.task h.task) [
        | inl same ↦ grind (arith, nat_tests)
        | inr ne ↦ elim (cases_eq k h.task) [
          | inl here ↦ let z : (at xs k).left ≡ 0 = rw here (no_units xs ys n cx cy l h e d (rw (sym here) p) ne) in grind (arith, nat_tests)
          | inr there ↦ grind (arith, nat_tests)
        ]
      ]

  near_served : (xs ys : List Slot) → Near P xs ys → Counted ys → Near P (served f xs) (served g ys)
  near_served xs ys n cy = record {
    long = spent_length (picked f xs) xs ∙ n.long ∙ sym (spent_length (picked g ys) ys);
    aged = λ k. spent_age (picked f xs) xs k ∙ n.aged k ∙ sym (spent_age (picked g ys) ys k);
    less = λ k p. left_spent xs ys n (near_counted P xs ys n cy) cy (picked f xs) (picked g ys) refl refl k p;
  }

  -- at the end of a unit
  pub near_unit : (xs ys : List Slot) → Near P xs ys → Counted ys → Near P (map older (served f xs)) (map older (served g ys))
  near_unit xs ys n cy = near_older P (served f xs) (served g ys) (near_served xs ys n cy)
