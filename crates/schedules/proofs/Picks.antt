-- The job that is picked: it is ready, and under a lawful meaning it is ahead of every other ready job.
use Rattle.std.proofs.Common.{◌≡◌, ℕ, zero, suc, ◌+◌, ◌<◌, ◌≤◌, Bool, true, false, cond, ltb, ◌≢◌, List, [], ◌∷◌, length, Some, None, Option, sym, refl, ap, ◌∙◌, subst, inl, inr, add-zero, zero-add, arith}
use Rattle.std.specs.Option.{option_map}
use Rattle.std.specs.List.{AllByRecursion}
use Rattle.std.proofs.lemmas.Bool.{ltb-true, lt-ltb, cases_lt}
use Rattle.std.proofs.lemmas.List.{get_or_past}
use Rattle.orderings.specs.Meaning.{Meaning, InRange, Exclusive, Transitive}
use Rattle.schedules.specs.declared.slot.Slot.{Slot}
use Rattle.firsts.specs.declared.job.Job.{Job}
use Rattle.firsts.specs.First.{In, Distinct, ExclusiveOn, TransitiveOn, Leads, IsFirst}
use Rattle.schedules.specs.Units.{nothing, at, Ready, ready_from, picked, under, AheadOfAllReady}
use Rattle.firsts.proofs.Firsts.{first_leads, first_in, all_in}

abbrev job : ℕ → ℕ → Job
job i a = record { task = i; age = a }

pub ready_within : (ss : List Slot) (k : ℕ) → Ready ss k → k < length ss
ready_within ss k r = elim (cases_lt k (length ss)) [
  | inl lt ↦ lt
  | inr le ↦ let e : (at ss k).left ≡ 0 = ap (λ s. s.left) (get_or_past ss k nothing le) in omega arith
]

-- what holds of each ready slot holds of each ready job
ready_all : (P : Job → Type 0) (i : ℕ) (ss : List Slot) → ((k : ℕ) → Ready ss k → P (job (i + k) (at ss k).age)) → AllByRecursion P (ready_from i ss)
ready_all P i [] h = tt
ready_all P i (s ∷ ss) h =
    let rest : AllByRecursion P (ready_from (i + 1) ss) = ready_all P (i + 1) ss (λ k r. subst (λ n. P (job n (at ss k).age)) (omega arith) (h (suc k) r)) in
    let Q : Bool → Type 0 = λ v. ltb 0 s.left ≡ v → AllByRecursion P (cond v (job i s.age ∷ ready_from (i + 1) ss) (ready_from (i + 1) ss)) in
    (elim (ltb 0 s.left) as Q [
      | true ↦ λ e. (subst (λ n. P (job n s.age)) (add-zero i) (h 0 (ltb-true 0 s.left e)), rest)
      | false ↦ λ e. rest
    ]) refl

-- and the other way round
ready_gives : (P : Job → Type 0) (i : ℕ) (ss : List Slot) → AllByRecursion P (ready_from i ss) → (k : ℕ) → Ready ss k → P (job (i + k) (at ss k).age)
ready_gives P i [] all k r = absurd (let z : 0 < 0 = r in omega arith)
ready_gives P i (s ∷ ss) all zero r =
    let all' : AllByRecursion P (job i s.age ∷ ready_from (i + 1) ss) = rw (lt-ltb 0 s.left r) at all in
    subst (λ n. P (job n s.age)) (sym (add-zero i)) all'.0
ready_gives P i (s ∷ ss) all (suc k) r =
    let Q : Bool → Type 0 = λ v. AllByRecursion P (cond v (job i s.age ∷ ready_from (i + 1) ss) (ready_from (i + 1) ss)) → AllByRecursion P (ready_from (i + 1) ss) in
    let rest : AllByRecursion P (ready_from (i + 1) ss) = (elim (ltb 0 s.left) as Q [ true ↦ λ a. a.1 | false ↦ λ a. a ]) all in
    subst (λ n. P (job n (at ss k).age)) (omega arith) (ready_gives P (i + 1) ss rest k r)

ready_distinct : (i : ℕ) (ss : List Slot) → Distinct (ready_from i ss)
ready_distinct i [] = tt
ready_distinct i (s ∷ ss) =
    let Q : Bool → Type 0 = λ v. Distinct (cond v (job i s.age ∷ ready_from (i + 1) ss) (ready_from (i + 1) ss)) in
    elim (ltb 0 s.left) as Q [
      | true ↦ (ready_all (λ y. job i s.age ≢ y) (i + 1) ss (λ k r e. let f : i ≡ (i + 1) + k = ap (λ j. j.task) e in omega arith), ready_distinct (i + 1) ss)
      | false ↦ ready_distinct (i + 1) ss
    ]

-- a ready job, by its slot
abbrev pub IsReady : List Slot → Job → Type 0
IsReady ss j = Ready ss j.task × (j.age ≡ (at ss j.task).age)

ready_is : (ss : List Slot) (j : Job) → In j (ready_from 0 ss) → IsReady ss j
ready_is ss j here = all_in (IsReady ss) (ready_from 0 ss) j (ready_all (IsReady ss) 0 ss (λ k r. rw zero-add (r, refl))) here

pub picked_ready : (m : Meaning) (ss : List Slot) (j : Job) → picked m ss ≡ Some j → IsReady ss j
picked_ready m ss j e = ready_is ss j (first_in (under m) j (ready_from 0 ss) e)

same_job : (ss : List Slot) (x y : Job) → IsReady ss x → IsReady ss y → x.task ≡ y.task → x ≡ y
same_job ss x y rx ry e =
    let f : x.age ≡ y.age = rx.1 ∙ ap (λ k. (at ss k).age) e ∙ sym ry.1 in
    ap (λ k. job k x.age) e ∙ ap (job y.task) f

-- the numbers and ages of all slots are such as the laws are asked for
pub record Counted (ss : List Slot) : Type 0 where
  pub few : length ss ≤ 32
  pub aged : (k : ℕ) → k < length ss → InRange (at ss k).age

module _ (m : Meaning) (ex : Exclusive m) (tr : Transitive m) (ss : List Slot) (counted : Counted ss) where
  task_range : (j : Job) → IsReady ss j → InRange j.task
  task_range j r = let w = ready_within ss j.task r.0 in omega (arith, counted.few)

  age_range : (j : Job) → IsReady ss j → InRange j.age
  age_range j r = let w = counted.aged j.task (ready_within ss j.task r.0) in omega (arith, r.1)

  ready_exclusive : ExclusiveOn (under m) (ready_from 0 ss)
  ready_exclusive x y hx hy ne =
      let rx = ready_is ss x hx in
      let ry = ready_is ss y hy in
      ex x.task x.age y.task y.age (task_range x rx) (age_range x rx) (task_range y ry) (age_range y ry) (λ e. ne (same_job ss x y rx ry e))

  ready_transitive : TransitiveOn (under m) (ready_from 0 ss)
  ready_transitive x y z hx hy hz xy yz xz =
      let rx = ready_is ss x hx in
      let ry = ready_is ss y hy in
      let rz = ready_is ss z hz in
      tr x.task x.age y.task y.age z.task z.age
      (task_range x rx) (age_range x rx) (task_range y ry) (age_range y ry) (task_range z rz) (age_range z rz)
      (λ e. xy (same_job ss x y rx ry e)) (λ e. yz (same_job ss y z ry rz e)) (λ e. xz (same_job ss x z rx rz e))

  first_ready : IsFirst (under m) (ready_from 0 ss) (picked m ss)
  first_ready = first_leads (under m) (ready_from 0 ss) (ready_distinct 0 ss) ready_exclusive ready_transitive

  ahead_by : (p : Option Job) → picked m ss ≡ p → AheadOfAllReady m ss (option_map (λ j. j.task) p)
  ahead_by None e =
      let f : ready_from 0 ss ≡ [] = rw e at first_ready in
      let P : Job → Type 0 = λ _. ⊥ in
      λ k r. ready_gives P 0 ss (rw f tt) k r
  ahead_by (Some j) e =
      let f : Leads (under m) (ready_from 0 ss) j = rw e at first_ready in
      let r = picked_ready m ss j e in (
        r.0,
        λ k h ne.
            let g : job (0 + k) (at ss k).age ≢ j → m j.task j.age (0 + k) (at ss k).age ≡ true =
            ready_gives (λ y. y ≢ j → under m j y ≡ true) 0 ss f.1 k h in
            let g' : job k (at ss k).age ≢ j → m j.task j.age k (at ss k).age ≡ true = rw zero-add at g in
            rw (sym r.1) (g' (λ q. ne (ap (λ x. x.task) q))),
      )

  pub picked_ahead : AheadOfAllReady m ss (option_map (λ j. j.task) (picked m ss))
  picked_ahead = ahead_by (picked m ss) refl

-- the same of what is picked, once it is known
pub picks : (m : Meaning) → Exclusive m → Transitive m → (ss : List Slot) → Counted ss → (p : Option Job) → picked m ss ≡ p → AheadOfAllReady m ss (option_map (λ j. j.task) p)
picks m ex tr ss c p e = subst (λ o. AheadOfAllReady m ss (option_map (λ j. j.task) o)) e (picked_ahead m ex tr ss c)
