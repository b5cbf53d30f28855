-- What holds of a search after any number of rounds.
use Rattle.std.proofs.Common.{◌≡◌, ℕ, zero, suc, ◌+◌, ◌-◌, ◌<◌, ◌≤◌, List, length, get_or, sum_by, sym, refl, ap, ◌∙◌, subst, inl, inr, add-zero, add-suc, arith}
use Rattle.std.proofs.lemmas.List.{length-map, length-set}
use Rattle.std.proofs.lemmas.List.Folds.{fold-map}
use Rattle.std.proofs.Math.ListN.{get_or-map}
use Rattle.std.proofs.lemmas.Bool.{cases_eq}
use Rattle.tables.specs.declared.task.Task.{Task}
use Rattle.tables.specs.Tasks.{nobody}
use Rattle.tables.specs.Setting.{with_promotion}
use Rattle.orderings.specs.Meaning.{Meaning}
use Rattle.schedules.specs.declared.verdict.Verdict.TheVariants.{Holds, Misses}
use Rattle.searches.specs.declared.search.Stage.{Stage}
use Rattle.searches.specs.declared.search.Stage.TheVariants.{Open, Held, Stuck}
use Rattle.searches.specs.Searches.{Trial, at_deadlines, begun, lowered, tried, round_after, rounds}
use Rattle.searches.specs.SearchLaws.{PromotionsNeverRise, OnlyPromotionsChange, HeldIsHolding, StuckIsMissingAtZero, EndsWithinTheSumOfDeadlines}
use Rattle.searches.proofs.Lowered.{lowered_here, lowered_elsewhere, lowered_falls, lowered_sum}
use Rattle.searches.proofs.Rounds.{at_stage, by_round}

-- what the stage says of the verdict
abbrev Told : Meaning → List Task → Stage → Type 0
Told lower us Open = Unit {0}
Told lower us Held = tried lower us ≡ Holds
Told lower us (Stuck x) = (tried lower us ≡ Misses x) × ((get_or us x.task nobody).s ≡ 0)

-- a search that started from the tasks ts, after n rounds; while it is open, each of them took one unit from the sum of all
-- promotion times
record Along (ts : List Task) (lower : Meaning) (n : ℕ) (t : Trial) : Type 0 where
  count : length t.tasks ≡ length ts
  same : (i : ℕ) → get_or t.tasks i nobody ≡ with_promotion (get_or ts i nobody) (get_or t.tasks i nobody).s
  bound : (i : ℕ) → (get_or t.tasks i nobody).s ≤ (get_or ts i nobody).d
  told : Told lower t.tasks t.stage
  spent : t.stage ≡ Open → sum_by (λ x. x.s) t.tasks + n ≡ sum_by (λ x. x.d) ts

moved_at : (ts : List Task) (i : ℕ) → get_or (at_deadlines ts) i nobody ≡ with_promotion (get_or ts i nobody) (get_or ts i nobody).d
moved_at ts i = get_or-map (λ x. with_promotion x x.d) ts i nobody

-- a task with another S is that task with the S that it then has
but_for_time : (x y : Task) (n : ℕ) → y ≡ with_promotion x n → y ≡ with_promotion x y.s
but_for_time x y n e = e ∙ ap (with_promotion x) (sym (ap (λ (z : Task). z.s) e))

module _ (ts : List Task) (lower : Meaning) where
  along_none : Along ts lower 0 (begun ts)
  along_none = record {
    count = length-map ts _;
    same = λ i. but_for_time (get_or ts i nobody) (get_or (at_deadlines ts) i nobody) (get_or ts i nobody).d (moved_at ts i);
    bound = λ i. let e = ap (λ (z : Task). z.s) (moved_at ts i) in omega arith;
    told = tt;
    spent = λ e. let z = fold-map (λ b (x : Task). b + x.s) (λ x. with_promotion x x.d) 0 ts in omega arith;
  }

  along_lowered : (n : ℕ) (us : List Task) (i : ℕ) → 0 < (get_or us i nobody).s → Along ts lower n (at_stage us Open) → Along ts lower (suc n) (at_stage (lowered us i) Open)
  along_lowered n us i h a = record {
    count = length-set us i _ ∙ a.count;
    same = λ k. elim (cases_eq k i) [
      | inl e ↦
          subst (λ j. get_or (lowered us i) j nobody ≡ with_promotion (get_or ts j nobody) (get_or (lowered us i) j nobody).s) (sym e)
          (but_for_time (get_or ts i nobody) _ _ (lowered_here us i h ∙ ap (λ z. with_promotion z ((get_or us i nobody).s - 1)) (a.same i)))
      | inr ne ↦ but_for_time (get_or ts k nobody) _ _ (lowered_elsewhere us i h k ne ∙ a.same k)
    ];
    bound = λ k. let l = lowered_falls us i h k in let b = a.bound k in omega arith;
    told = tt;
    spent = λ e. let s = lowered_sum us i h in let b = a.spent refl in omega arith;
  }

  -- a round that leaves the tasks, and the search in a stage other than open
  along_closed : (n : ℕ) (us : List Task) (st next : Stage) → Along ts lower n (at_stage us st) → Told lower us next → (next ≡ Open → ⊥) → Along ts lower (suc n) (at_stage us next)
  along_closed n us st next a told closed = record { count = a.count; same = a.same; bound = a.bound; told = told; spent = λ e. absurd (closed e) }

  along_more : (n : ℕ) (t : Trial) → Along ts lower n t → Along ts lower (suc n) (round_after lower t)
  along_more n t a =
      let us = t.tasks in
      by_round (Along ts lower (suc n)) lower us t.stage
      (λ closed. along_closed n us t.stage t.stage a a.told closed)
      (λ _ holds. along_closed n us t.stage Held a holds (λ e. let z : ◌≡◌ {A = ℕ} 0 1 = cc in omega arith))
      (λ x e _ h. along_lowered n us x.task h (subst (λ st. Along ts lower n (at_stage us st)) e a))
      (λ x _ misses z. along_closed n us t.stage (Stuck x) a (misses, z) (λ e. let y : ◌≡◌ {A = ℕ} 0 1 = cc in omega arith))

  along : (n : ℕ) → Along ts lower n (rounds lower n (begun ts))
  along zero = along_none
  along (suc n) = along_more n (rounds lower n (begun ts)) (along n)

  round_falls : (t : Trial) (i : ℕ) → (get_or (round_after lower t).tasks i nobody).s ≤ (get_or t.tasks i nobody).s
  round_falls t i =
      by_round (λ u. (get_or u.tasks i nobody).s ≤ (get_or t.tasks i nobody).s) lower t.tasks t.stage
      (λ _. omega arith)
      (λ _ _. omega arith)
      (λ x _ _ h. lowered_falls t.tasks x.task h i)
      (λ x _ _ _. omega arith)

  pub never_rise : PromotionsNeverRise ts lower
  never_rise n zero i = let e = ap (λ m. (get_or (rounds lower m (begun ts)).tasks i nobody).s) (add-zero n) in omega arith
  never_rise n (suc k) i =
      let e = ap (λ m. (get_or (rounds lower m (begun ts)).tasks i nobody).s) (add-suc n k) in
      let f = round_falls (rounds lower (n + k) (begun ts)) i in
      let l = never_rise n k i in
      omega arith

  pub only_promotions : OnlyPromotionsChange ts lower
  only_promotions n = let a = along n in (a.count, a.same, a.bound)

  pub held_holds : HeldIsHolding ts lower
  held_holds n e = subst (Told lower (rounds lower n (begun ts)).tasks) e (along n).told

  pub stuck_misses : StuckIsMissingAtZero ts lower
  stuck_misses n x e = subst (Told lower (rounds lower n (begun ts)).tasks) e (along n).told

  pub ends : EndsWithinTheSumOfDeadlines ts lower
  ends n h e = let s = (along n).spent e in omega arith
