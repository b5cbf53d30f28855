-- What serving a job changes, place by place.
use Rattle.std.proofs.Common.{◌≡◌, ℕ, ◌+◌, ◌-◌, ◌<◌, ◌≤◌, cond, eqb, List, length, take, set, Some, None, Option, sym, refl, ap, ◌∙◌, subst, arith}
use Rattle.std.proofs.lemmas.List.{length-set, length-take-le, get_or-take}
use Rattle.std.proofs.Math.Seq.{take-set-lt}
use Rattle.std.proofs.lemmas.Bool.Decides.{nat_tests}
use Rattle.schedules.specs.declared.slot.Slot.{Slot}
use Rattle.firsts.specs.declared.job.Job.{Job}
use Rattle.firsts.specs.First.{first_in_order}
use Rattle.orderings.specs.Meaning.{Meaning}
use Rattle.schedules.specs.Units.{nothing, at, ready_from, under, picked, spent, served}
use Rattle.schedules.proofs.Slots.{put_age, put_left}
use Rattle.schedules.proofs.Picks.{IsReady, picked_ready, ready_within}

pub spent_length : (p : Option Job) (ss : List Slot) → length (spent p ss) ≡ length ss
spent_length None ss = refl
spent_length (Some j) ss = length-set ss j.task _

pub spent_age : (p : Option Job) (ss : List Slot) (k : ℕ) → (at (spent p ss) k).age ≡ (at ss k).age
spent_age None ss k = refl
spent_age (Some j) ss k = put_age ss j.task (λ n. n - 1) refl k

pub spent_left : (j : Job) (ss : List Slot) (k : ℕ) → (at (spent (Some j) ss) k).left ≡ cond (eqb k j.task) ((at ss k).left - 1) (at ss k).left
spent_left j ss k = put_left ss j.task (λ n. n - 1) refl k

-- nobody gets more
pub spent_less : (p : Option Job) (ss : List Slot) (k : ℕ) → (at (spent p ss) k).left ≤ (at ss k).left
spent_less None ss k = omega arith
spent_less (Some j) ss k = let e = spent_left j ss k in grind (arith, nat_tests)

-- who is served, and has units left, has one less
pub spent_own : (j : Job) (ss : List Slot) (k : ℕ) → k ≡ j.task → 0 < (at ss k).left → (at (spent (Some j) ss) k).left + 1 ≤ (at ss k).left
spent_own j ss k same h = let e = spent_left j ss k in grind (arith, nat_tests)

-- the first of the jobs that were gathered from the front slots
pub record Gathered (m : Meaning) (n : ℕ) (slots : List Slot) (jobs : List Job) (count : ℕ) (j : Job) : Type 0 where
  pub few : n ≤ length slots
  pub gathered : take count jobs ≡ ready_from 0 (take n slots)
  pub is_first : Some j ≡ first_in_order (under m) (take count jobs)

module _ {m : Meaning} {n : ℕ} {slots : List Slot} {jobs : List Job} {count : ℕ} {j : Job} (u : Gathered m n slots jobs count j) where
  is_picked : picked m (take n slots) ≡ Some j
  is_picked = sym (u.is_first ∙ ap (first_in_order (under m)) u.gathered)

  is_ready : IsReady (take n slots) j
  is_ready = picked_ready m (take n slots) j is_picked

  pub served_within : j.task < n
  served_within = let w = ready_within (take n slots) j.task is_ready.0 in let few = u.few in omega (arith, length-take-le n slots few)

  here : at (take n slots) j.task ≡ at slots j.task
  here = get_or-take n slots j.task nothing served_within

  pub served_has_units : 0 < (at slots j.task).left
  served_has_units = subst (λ s. 0 < s.left) here is_ready.0

  pub served_front : take n (set slots j.task (record { age = (at slots j.task).age; left = (at slots j.task).left - 1 })) ≡ served m (take n slots)
  served_front =
      take-set-lt n slots j.task _ served_within
      ∙ ap (λ s. set (take n slots) j.task (record { age = s.age; left = s.left - 1 })) (sym here)
      ∙ ap (λ p. spent p (take n slots)) (sym is_picked)
