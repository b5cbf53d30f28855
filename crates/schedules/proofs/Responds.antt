-- A task that stands behind the tasks of a set and ahead of all others meets its deadlines, if the load of the set and one
-- of its own jobs can be worked off in time.
use Rattle.std.proofs.Common.{◌≡◌, ℕ, zero, suc, ◌+◌, ◌-◌, ◌%◌, ◌<◌, ◌≤◌, Bool, true, false, cond, not, eqb, ltb, ◌≢◌, List, length, get_or, Some, None, Option, sym, refl, ap, ◌∙◌, subst, inl, inr, mul-le-mul_left, arith}
use native.Mathlib.Nat.{mod-le, zero-mod}
use Rattle.std.proofs.lemmas.Bool.{cases_eq, cases_Bool, cond-true, cond-false, eqb-true, ltb-true, eq-eqb, ne_eqb, and_parts, true≢false}
use Rattle.std.proofs.lemmas.Bool.Decides.{nat_tests}
use Rattle.tables.specs.declared.task.Task.{Task}
use Rattle.tables.specs.Tasks.{nobody, Each, Timed}
use Rattle.orderings.specs.Meaning.{Meaning, InRange, Exclusive, Transitive}
use Rattle.viability.specs.Totals.{total}
use Rattle.viability.specs.Viable.{asked}
use Rattle.firsts.specs.declared.job.Job.{Job}
use Rattle.schedules.specs.declared.slot.Slot.{Slot}
use Rattle.schedules.specs.Units.{at, Ready, picked, spent, served, older, late, renew}
use Rattle.schedules.specs.Runs.{unit_end}
use Rattle.schedules.specs.Schedule.{full, full_miss}
use Rattle.viability.proofs.Totals.{total_le, total_falls, total_plus, total_zero, total_swap, total_has, total_some, total_times}
use Rattle.schedules.proofs.Windows.{hits_few}
use Rattle.schedules.proofs.Response as response
use Rattle.schedules.proofs.Slots.{older_at}
use Rattle.schedules.proofs.Served.{spent_length, spent_age, spent_less, spent_own}
use Rattle.schedules.proofs.Picks.{Counted, ready_within, picks}
use Rattle.schedules.proofs.Endless.{Going, going, going_counted, slot_next, mod_step}

-- a release gives the budget at age 0, and nothing else gives units
renew_gives : (t : Task) (s : Slot) → (renew t (older s)).left ≤ s.left + cond (eqb (renew t (older s)).age 0) t.c 0
renew_gives t s = grind (arith, nat_tests)

-- the budgets that come in a column of instants
column : (v : Bool) (x : Task) (s q : ℕ) → 0 < x.t → total (λ r. cond v (cond (eqb ((s + r) % x.t) 0) x.c 0) 0) q ≤ cond v (asked x q) 0
column true x s q pos =
    let e = total_times x.c (λ r. eqb ((s + r) % x.t) 0) q in
    let h = mul-le-mul_left x.c (hits_few x.t 0 s pos q) in
    omega arith
column false x s q pos = let e = total_zero q in omega arith

-- what a set takes of a sum of two
cond_plus : (v : Bool) (x y z : ℕ) → x ≤ y + z → cond v x 0 ≤ cond v y 0 + cond v z 0
cond_plus true x y z h = h
cond_plus false x y z h = omega arith

cond_le : (v : Bool) (x y : ℕ) → x ≤ y → cond v x 0 ≤ cond v y 0
cond_le true x y h = h
cond_le false x y h = omega arith

cond_some : (v : Bool) (x : ℕ) → 0 < cond v x 0 → (v ≡ true) × (0 < x)
cond_some true x h = (refl, h)
cond_some false x h = absurd (let z : ⊥ = omega arith in z)

module _ (ts : List Task) (m : Meaning) (few : length ts ≤ 32) (timed : Each Timed ts) (ex : Exclusive m) (tr : Transitive m)
    (hp : ℕ → Bool) (b t : ℕ) (here : b < length ts) (self : hp b ≡ false)
    (ahead : (j a β : ℕ) → j < length ts → hp j ≡ true → m j a b β ≡ true)
    (behind : (j a β : ℕ) → j < length ts → j ≢ b → hp j ≡ false → m b β j a ≡ true)
    (early : t ≤ (get_or ts b nobody).d)
    (fits : (get_or ts b nobody).c + total (λ j. cond (hp j) (asked (get_or ts j nobody) t) 0) (length ts) ≤ t) where
  abbrev task : ℕ → Task
  task j = get_or ts j nobody

  abbrev slots : ℕ → List Slot
  slots k = (full ts m k).slots

  abbrev left : ℕ → ℕ → ℕ
  left k j = (at (slots k) j).left

  -- after the service of the unit that begins at instant k
  abbrev spared : ℕ → ℕ → ℕ
  spared k j = (at (served m (slots k)) j).left

  abbrev waiting : ℕ → ℕ
  waiting k = total (λ j. cond (hp j) (left k j) 0) (length ts)

  abbrev still : ℕ → ℕ
  still k = total (λ j. cond (hp j) (spared k j) 0) (length ts)

  abbrev fresh_of : ℕ → ℕ → ℕ
  fresh_of k j = cond (eqb (k % (task j).t) 0) (task j).c 0

  abbrev coming : ℕ → ℕ
  coming k = total (λ j. cond (hp j) (fresh_of k j) 0) (length ts)

  abbrev mine : ℕ → ℕ
  mine k = left k b

  pos : 1 ≤ (task b).c
  pos = let h = timed b here in omega arith

  abbrev Room : Type 0
  Room = response.Room t (task b).c coming waiting mine pos

  room : Room
  room s =
      let swap = total_swap (λ r j. cond (hp j) (fresh_of (s + r) j) 0) (length ts) t in
      let le = total_le (λ j. total (λ r. cond (hp j) (fresh_of (s + r) j) 0) t) (λ j. cond (hp j) (asked (task j) t) 0) (length ts)
      (λ j h. column (hp j) (task j) s t (let x = timed j h in omega arith)) in
      let f = fits in
      omega arith

  module _ (k : ℕ) (g : Going ts m timed k) where
    counted : Counted (slots k)
    counted = going_counted ts m timed few k g

    ready_here : (j : ℕ) → Ready (slots k) j → (j < length ts) × InRange j × InRange (at (slots k) j).age
    ready_here j r =
        let w = ready_within (slots k) j r in
        let long = g.long in
        (omega arith, omega arith, counted.aged j w)

    -- two ready jobs are not each ahead of the other
    not_both : (i j : ℕ) → i ≢ j → Ready (slots k) i → Ready (slots k) j
        → m i (at (slots k) i).age j (at (slots k) j).age ≡ true → m j (at (slots k) j).age i (at (slots k) i).age ≡ true → ⊥
    not_both i j ne ri rj p q =
        let hi = ready_here i ri in
        let hj = ready_here j rj in
        true≢false (sym q ∙ ex i (at (slots k) i).age j (at (slots k) j).age hi.1 hi.2 hj.1 hj.2 ne ∙ ap not p)

    -- where a job of the set is ready, one of the set is served
    serves_set : (i : ℕ) → hp i ≡ true → Ready (slots k) i → (p : Option Job) → picked m (slots k) ≡ p → (j : Job) × (p ≡ Some j) × (hp j.task ≡ true) × Ready (slots k) j.task
    serves_set i h r None e = absurd (picks m ex tr (slots k) counted None e i r)
    serves_set i h r (Some j) e =
        let a = picks m ex tr (slots k) counted (Some j) e in
        let age : ℕ → ℕ = λ n. (at (slots k) n).age in
        elim (cases_Bool (hp j.task)) [
          | inl chosen ↦ (j, refl, chosen, a.0)
          | inr none ↦
              let apart : i ≢ j.task = λ q. true≢false (sym h ∙ ap hp q ∙ none) in
              let over : m j.task (age j.task) i (age i) ≡ true = a.1 i r apart in
              let hi = ready_here i r in
              let hj = ready_here j.task a.0 in
              elim (cases_eq j.task b) [
                | inl same ↦ absurd (not_both i j.task apart r a.0 (rw same (ahead i (age i) (age b) hi.0 h)) over)
                | inr ne ↦
                    let i-b : i ≢ b = λ q. true≢false (sym h ∙ ap hp q ∙ self) in
                    let b-in : InRange b = omega arith in
                    let zero_in : InRange 0 = omega arith in
                    absurd (not_both i j.task apart r a.0
                    (tr i (age i) b 0 j.task (age j.task) hi.1 hi.2 b-in zero_in hj.1 hj.2 i-b (λ q. ne (sym q)) apart
                    (ahead i (age i) 0 hi.0 h) (behind j.task (age j.task) 0 hj.0 ne none))
                    over)
              ]
        ]

    still_le : still k ≤ waiting k
    still_le = total_le _ _ (length ts) (λ j h. cond_le (hp j) (spared k j) (left k j) (spent_less (picked m (slots k)) (slots k) j))

    -- a unit is worked off while some is waiting
    still_falls : 0 < waiting k → still k + 1 ≤ waiting k
    still_falls h =
        let some = total_some (λ j. cond (hp j) (left k j) 0) (length ts) h in
        let i = some.0 in
        let is = cond_some (hp i) (left k i) some.2 in
        let s = serves_set i is.0 is.1 (picked m (slots k)) refl in
        let j = s.0.task in
        let own : spared k j + 1 ≤ left k j = subst (λ p. (at (spent p (slots k)) j).left + 1 ≤ left k j) (sym s.1) (spent_own s.0 (slots k) j refl s.3) in
        let one : cond (hp j) (spared k j) 0 + 1 ≤ cond (hp j) (left k j) 0 = rw s.2 own in
        total_falls (λ j. cond (hp j) (spared k j) 0) (λ j. cond (hp j) (left k j) 0) (length ts) j (ready_here j s.3).0 one
        (λ j h. cond_le (hp j) (spared k j) (left k j) (spent_less (picked m (slots k)) (slots k) j))

    -- with none of the set waiting, the task itself is served
    serves_own : waiting k ≡ 0 → Ready (slots k) b → (p : Option Job) → picked m (slots k) ≡ p → (at (spent p (slots k)) b).left + 1 ≤ mine k
    serves_own none r None e = absurd (picks m ex tr (slots k) counted None e b r)
    serves_own none r (Some j) e =
        let a = picks m ex tr (slots k) counted (Some j) e in
        let age : ℕ → ℕ = λ n. (at (slots k) n).age in
        elim (cases_eq b j.task) [
          | inl same ↦ spent_own j (slots k) b same r
          | inr ne ↦
              let hj = ready_here j.task a.0 in
              elim (cases_Bool (hp j.task)) [
                | inl in-set ↦
                    let has : cond (hp j.task) (left k j.task) 0 ≤ waiting k = total_has (λ j. cond (hp j) (left k j) 0) (length ts) j.task hj.0 in
                    let has' : left k j.task ≤ waiting k = rw in-set at has in
                    let units = a.0 in
                    absurd (let z : ⊥ = omega arith in z)
                | inr out ↦ absurd (not_both b j.task ne r a.0 (behind j.task (age j.task) (age b) hj.0 (λ q. ne (sym q)) out) (a.1 b r ne))
              ]
        ]

    own_turn : waiting k ≡ 0 → 0 < mine k → spared k b + 1 ≤ mine k
    own_turn none r = serves_own none r (picked m (slots k)) refl

    module _ (none : full_miss ts m (suc k) ≡ None) (after : Going ts m timed (suc k)) where
      left_next : (j : ℕ) → j < length ts → left (suc k) j ≤ spared k j + fresh_of (suc k) j
      left_next j h =
          let e = slot_next ts m timed k g none j h in
          let s = at (served m (slots k)) j in
          let gives = renew_gives (task j) s in
          let age : (renew (task j) (older s)).age ≡ suc k % (task j).t = ap (λ x. x.age) (sym e) ∙ after.aged j h in
          let gives' : (renew (task j) (older s)).left ≤ spared k j + fresh_of (suc k) j = rw age at gives in
          subst (λ x. x.left ≤ spared k j + fresh_of (suc k) j) (sym e) gives'

      waiting_next : waiting (suc k) ≤ still k + coming (suc k)
      waiting_next =
          let le = total_le (λ j. cond (hp j) (left (suc k) j) 0) (λ j. cond (hp j) (spared k j) 0 + cond (hp j) (fresh_of (suc k) j) 0) (length ts)
          (λ j h. cond_plus (hp j) (left (suc k) j) (spared k j) (fresh_of (suc k) j) (left_next j h)) in
          let plus = total_plus (λ j. cond (hp j) (spared k j) 0) (λ j. cond (hp j) (fresh_of (suc k) j) 0) (length ts) in
          omega arith

      worked : response.Worked t (task b).c coming waiting mine pos k
      worked = (
        λ some. let f = still_falls some in let n = waiting_next in omega arith,
        λ idle. let f = still_le in let n = waiting_next in omega arith,
      )

      own_next : suc k % (task b).t ≢ 0 → mine (suc k) ≤ spared k b
      own_next ne =
          let n = left_next b here in
          let z : fresh_of (suc k) b ≡ 0 = cond-false _ _ _ (ne_eqb (suc k % (task b).t) 0 ne) in
          omega arith

      own_served : suc k % (task b).t ≢ 0 → response.Served t (task b).c coming waiting mine pos k
      own_served ne = (
        let n = own_next ne in let l = spent_less (picked m (slots k)) (slots k) b in omega arith,
        λ idle units. let n = own_next ne in let o = own_turn idle units in omega arith,
      )

  -- at its release the job has its budget
  own_release : (k : ℕ) → Going ts m timed k → k % (task b).t ≡ 0 → mine k ≤ (task b).c
  own_release k g z = let e : mine k ≡ (task b).c = ap (λ s. s.left) (g.new b here (g.aged b here ∙ z)) in omega arith

  all_come : (g : Going ts m timed 0) → waiting 0 ≤ coming 0
  all_come g = total_le _ _ (length ts) (λ j h.
      let z : 0 % (task j).t ≡ 0 = zero-mod (task j).t in
      let e : left 0 j ≡ (task j).c = ap (λ s. s.left) (g.new j h (g.aged j h ∙ z)) in
      let f : fresh_of 0 j ≡ (task j).c = cond-true _ _ _ (eq-eqb (0 % (task j).t) 0 z) in
      cond_le (hp j) (left 0 j) (fresh_of 0 j) (omega arith))

  abbrev Busy : ℕ → Type 0
  Busy = response.Busy t (task b).c coming waiting mine pos

  -- the job that was released last
  abbrev Current : ℕ → Type 0
  Current k = response.Job t (task b).c coming waiting mine pos (k - k % (task b).t) k

  -- no tick up to the n-th misses
  abbrev None-by : ℕ → Type 0
  None-by n = (k : ℕ) → k ≤ n → full_miss ts m k ≡ None

  goes : (n : ℕ) → None-by n → Going ts m timed n
  goes = going ts m timed

  busy : (n : ℕ) → None-by n → Busy n
  busy zero none = response.busy_start t (task b).c coming waiting mine pos room (all_come (goes 0 none))
  busy (suc n) none =
      let before : None-by n = λ k h. none k (omega arith) in
      response.busy_step t (task b).c coming waiting mine pos room n (worked n (goes n before) (none (suc n) (omega arith)) (goes (suc n) none)) (busy n before)

  starts : (n : ℕ) → None-by n → n % (task b).t ≡ 0 → Current n
  starts n none z =
      let e : n - n % (task b).t ≡ n = omega arith in
      subst (λ a. response.Job t (task b).c coming waiting mine pos a n) (sym e)
      (response.job_start t (task b).c coming waiting mine pos n (own_release n (goes n none) z) (busy n none))

  current : (n : ℕ) → None-by n → Current n
  current zero none = starts 0 none (zero-mod (task b).t)
  current (suc n) none = elim (cases_eq (suc n % (task b).t) 0) [
    | inl z ↦ starts (suc n) none z
    | inr ne ↦
        let before : None-by n = λ k h. none k (omega arith) in
        let x = timed b here in
        let next = mod_step n (task b).t (omega arith) in
        let same : suc n % (task b).t ≡ n % (task b).t + 1 = elim (cases_eq (n % (task b).t + 1) (task b).t) [
          | inl wraps ↦ absurd (ne (next ∙ cond-true _ _ _ (eq-eqb _ _ wraps)))
          | inr on ↦ next ∙ cond-false _ _ _ (ne_eqb _ _ on)
        ] in
        let e : n - n % (task b).t ≡ suc n - suc n % (task b).t = omega arith in
        let g = goes n before in
        let g' = goes (suc n) none in
        let miss = none (suc n) (omega arith) in
        subst (λ a. response.Job t (task b).c coming waiting mine pos a (suc n)) e
        (response.job_step t (task b).c coming waiting mine pos room (n - n % (task b).t) n (worked n g miss g') (own_served n g miss g' ne) (current n before))
  ]

  -- the task is not late at the end of the unit after instant n
  pub meets : (n : ℕ) → ((k : ℕ) → k ≤ n → full_miss ts m k ≡ None) → late (task b) (at (unit_end m (slots n)) b) ≡ false
  meets n none =
      let g = goes n none in
      let s = at (served m (slots n)) b in
      let within : b < length (served m (slots n)) = let e = spent_length (picked m (slots n)) (slots n) in let l = g.long in omega arith in
      let e : at (unit_end m (slots n)) b ≡ older s = older_at (served m (slots n)) b within in
      elim (cases_Bool (late (task b) (older s))) [
        | inr fine ↦ ap (late (task b)) e ∙ fine
        | inl bad ↦
            let parts = and_parts (eqb (older s).age (task b).d) (ltb 0 (older s).left) bad in
            let due : s.age + 1 ≡ (task b).d = eqb-true _ _ parts.0 in
            let units : 0 < s.left = ltb-true _ _ parts.1 in
            let age : s.age ≡ n % (task b).t = spent_age (picked m (slots n)) (slots n) b ∙ g.aged b here in
            let low = mod-le n (task b).t in
            let done = response.job_done t (task b).c coming waiting mine pos room (n - n % (task b).t) n (spared n b) (omega arith) (current n none) (spent_less (picked m (slots n)) (slots n) b) (own_turn n g) in
            absurd (let z : ⊥ = omega arith in z)
      ]
