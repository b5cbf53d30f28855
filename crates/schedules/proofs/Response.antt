-- The response-time lemma, on numbers alone: work that is asked for in a stream is done in time, and so is a job behind it.
--
-- At each instant k: `w k` units of more urgent work are waiting, and `arr k` units of it have just come; `u k` units of the
-- job are left. Whatever becomes active when, and whatever stands behind the job, is not seen here.
use Rattle.std.proofs.Common.{◌≡◌, ℕ, suc, ◌+◌, ◌<◌, ◌≤◌, ◌⊎◌, refl, ap, inl, inr, arith}
use Rattle.std.proofs.lemmas.Bool.{cases_lt}
use Rattle.viability.specs.Totals.{total}

module _ (t c : ℕ) (arr w u : ℕ → ℕ) (pos : 1 ≤ c) where
  -- what comes in the q instants from s on
  abbrev pub window : ℕ → ℕ → ℕ
  window s q = total (λ r. arr (s + r)) q

  -- in t instants, whichever they are, no more comes than leaves room for the job
  abbrev pub Room : Type 0
  Room = (s : ℕ) → c + window s t ≤ t

  -- a unit at instant k: waiting work is served first
  abbrev pub Worked : ℕ → Type 0
  Worked k = (0 < w k → w (suc k) + 1 ≤ w k + arr (suc k)) × (w k ≡ 0 → w (suc k) ≤ arr (suc k))

  -- since an instant s, less than t units ago, the urgent work has been served in every unit
  pub record Busy (k : ℕ) : Type 0 where
    pub since : ℕ
    pub units : ℕ
    pub now : k ≡ since + units
    pub recent : units < t
    pub work : w k + units ≤ window since (suc units)

  pub busy_start : Room → w 0 ≤ arr 0 → Busy 0
  busy_start room h =
      let r = room 0 in
      let e : arr (0 + 0) ≡ arr 0 = refl in
      record { since = 0; units = 0; now = refl; recent = omega arith; work = omega arith }

  pub busy_step : Room → (k : ℕ) → Worked k → Busy k → Busy (suc k)
  busy_step room k unit b =
      elim (cases_lt 0 (w k)) [
        | inl some ↦
            let r = room b.since in
            let next : arr (suc k) ≡ arr (b.since + suc b.units) = ap arr (let n = b.now in omega arith) in
            let n = b.now in
            let d = b.recent in
            let old = b.work in
            let new = unit.0 some in
            record {
              since = b.since;
              units = suc b.units;
              now = omega arith;
              recent = (elim (cases_lt (suc b.units) t) [
                | inl soon ↦ soon
                | inr over ↦
                    let all : suc b.units ≡ t = omega arith in
                    let full : window b.since (suc b.units) ≡ window b.since t = ap (window b.since) all in
                    absurd (let z : ⊥ = omega arith in z)
              ]);
              work = omega arith;
            }
        | inr none ↦
            let new = unit.1 (omega arith) in
            let r = room 0 in
            let e : arr (suc k + 0) ≡ arr (suc k) = ap arr (omega arith) in
            record { since = suc k; units = 0; now = omega arith; recent = omega arith; work = omega arith }
      ]

  -- the job that became active at instant a: done, or worked at behind the urgent work since an instant up to a
  pub record Underway (a k : ℕ) : Type 0 where
    pub since : ℕ
    pub units : ℕ
    pub now : k ≡ since + units
    pub early : since ≤ a
    pub recent : units < t
    pub work : w k + u k + units ≤ c + window since (suc units)

  abbrev pub Job : ℕ → ℕ → Type 0
  Job a k = (u k ≡ 0) ⊎ Underway a k

  -- a unit at instant k that is not served to urgent work is served to the job
  abbrev pub Served : ℕ → Type 0
  Served k = (u (suc k) ≤ u k) × (w k ≡ 0 → 0 < u k → u (suc k) + 1 ≤ u k)

  pub job_start : (a : ℕ) → u a ≤ c → Busy a → Job a a
  job_start a h b =
      let n = b.now in
      let old = b.work in
      inr (record { since = b.since; units = b.units; now = n; early = omega arith; recent = b.recent; work = omega arith })

  -- in the t-th unit the job is done, if it was not before
  finishes : Room → (a k after : ℕ) (j : Underway a k) → suc j.units ≡ t → after ≤ u k → (w k ≡ 0 → 0 < u k → after + 1 ≤ u k) → after ≡ 0
  finishes room a k after j all less mine =
      let r = room j.since in
      let old = j.work in
      let full : window j.since (suc j.units) ≡ window j.since t = ap (window j.since) all in
      elim (cases_lt 0 (u k)) [
        | inr done ↦ omega arith
        | inl left ↦ let idle : w k ≡ 0 = omega arith in let one = mine idle left in omega arith
      ]

  pub job_step : Room → (a k : ℕ) → Worked k → Served k → Job a k → Job a (suc k)
  job_step room a k unit served (inl done) = let less = served.0 in inl (omega arith)
  job_step room a k unit served (inr j) =
      let next : arr (suc k) ≡ arr (j.since + suc j.units) = ap arr (let n = j.now in omega arith) in
      let n = j.now in
      let d = j.recent in
      let old = j.work in
      let less = served.0 in
      elim (cases_lt 0 (u k)) [
        | inr done ↦ inl (omega arith)
        | inl left ↦
            let falls : w (suc k) + u (suc k) + 1 ≤ w k + u k + arr (suc k) = elim (cases_lt 0 (w k)) [
              | inl some ↦ let new = unit.0 some in omega arith
              | inr none ↦ let z : w k ≡ 0 = omega arith in let new = unit.1 z in let mine = served.1 z left in omega arith
            ] in
            elim (cases_lt (suc j.units) t) [
              | inl soon ↦ inr (record { since = j.since; units = suc j.units; now = omega arith; early = j.early; recent = soon; work = omega arith })
              | inr over ↦ inl (finishes room a k (u (suc k)) j (omega arith) less served.1)
            ]
      ]

  -- t units after it became active the job is done: nothing is left after the unit that ends there
  pub job_done : Room → (a k after : ℕ) → a + t ≤ suc k → Job a k → after ≤ u k → (w k ≡ 0 → 0 < u k → after + 1 ≤ u k) → after ≡ 0
  job_done room a k after h (inl done) less mine = omega arith
  job_done room a k after h (inr j) less mine =
      let n = j.now in
      let e = j.early in
      let d = j.recent in
      finishes room a k after j (omega arith) less mine
