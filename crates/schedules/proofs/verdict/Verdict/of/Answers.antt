use Rattle.std.proofs.Common.{◌≡◌, ℕ, ◌+◌, ◌-◌, ◌<◌, ◌≤◌, false, List, Some, None, sym, ap, ◌∙◌, inl, inr, arith}
use Rattle.std.proofs.lemmas.Bool.{cases_lt}
use Rattle.tables.specs.declared.task.Task.{Task}
use Rattle.tables.specs.declared.table.Table.{Table}
use Rattle.orderings.specs.Meaning.{Meaning}
use Rattle.tables.specs.Tables.{tasks_of}
use Rattle.tables.specs.Hyperperiod.{hyperperiod_of}
use Rattle.tables.proofs.Counted.{positive, tasks_few}
use Rattle.tables.proofs.Multiples.{hyper_pos}
use Rattle.schedules.specs.Runs.{State, tick_answer, ticked}
use Rattle.schedules.specs.Views.{state_of_run}
use Rattle.schedules.specs.Schedule.{full, full_miss, judged}
use Rattle.schedules.specs.declared.verdict.Verdict.TheVariants.{Holds, Misses}
use Rattle.schedules.proofs.Alive.{stays_within, says_of_live}
use Rattle.schedules.proofs.Behind.{holds_behind}
use Rattle.schedules.proofs.Endless.{going, never_misses}
use Rattle.schedules.proofs.Judged.{answer_miss, answer_refused, judged_miss, judged_more, judged_end, miss_next, full_next}
use Rattle.schedules.proofs.verdict.Verdict.of.Given.{Over}
use Rattle.schedules.proofs.verdict.Verdict.of.Goals as goal
use Rattle.schedules.proofs.verdict.Verdict.of.Goals.{After-tick}

-- a call on the run is that call on the full schedule's state
same-call : {O Y : Type 0} (ahead : O → Meaning) (F : List Task → Meaning → State → Y) (t t' : Table) (o o' : O) (st st' : State)
    → t' ≡ t → o' ≡ o → st' ≡ st → F (tasks_of t') (ahead o') st' ≡ F (tasks_of t) (ahead o) st
same-call ahead F t t' o o' st st' et eo es =
    ap (λ u. F (tasks_of u) (ahead o') st') et ∙ ap (λ u. F (tasks_of t) (ahead u) st') eo ∙ ap (F (tasks_of t) (ahead o)) es

none_more : (ts : List Task) (m : Meaning) (n : ℕ) → ((k : ℕ) → k ≤ n → full_miss ts m k ≡ None) → full_miss ts m (n + 1) ≡ None → (k : ℕ) → k ≤ n + 1 → full_miss ts m k ≡ None
none_more ts m n before here k h = elim (cases_lt n k) [
  | inl last ↦ let e : k ≡ n + 1 = omega arith in ap (full_miss ts m) e ∙ here
  | inr early ↦ before k early
]

pub loop-n-init : goal.loop-n-init
loop-n-init g c =
    let t = c.args.table.now in
    let m = g.O.Ordering.ahead c.args.ordering.now in (
      c.new-run.ensures.keeps_table,
      c.new-run.ensures.keeps_ordering,
      c.new-run.ensures.state,
      (λ k h. let z : k ≡ 0 = omega arith in ap (full_miss (tasks_of t) m) z),
      (let e : c.hyperperiod-n-end.result - 0 ≡ hyperperiod_of (tasks_of t) = omega (arith, c.hyperperiod-n-end.ensures.value) in
          ap (λ f. judged (tasks_of t) m None f 0 (full (tasks_of t) m 0)) e),
    )

-- the full schedule goes on at instant n, and the run's tick answers what its tick does
on : (g : Over) (c : After-tick g) → (full (tasks_of c.args.table.now) (g.O.Ordering.ahead c.args.ordering.now) c.loop-n.n).ended ≡ false
on g c = (going _ _ c.args.table.now.timed c.loop-n.n c.loop-n.invariant.3).on

told : (g : Over) (c : After-tick g)
    → c.tick.result ≡ tick_answer (tasks_of c.args.table.now) (g.O.Ordering.ahead c.args.ordering.now) (full (tasks_of c.args.table.now) (g.O.Ordering.ahead c.args.ordering.now) c.loop-n.n)
told g c =
    let inv = c.loop-n.invariant in
    c.tick.ensures.answer ∙ same-call g.O.Ordering.ahead tick_answer c.args.table.now c.loop-n.run.table.now c.args.ordering.now c.loop-n.run.ordering.now _ (state_of_run c.loop-n.run) inv.0 inv.1 inv.2

pub returns-in-Some : goal.returns-in-Some
returns-in-Some g c =
    let t = c.args.table.now in
    let ts = tasks_of t in
    let m = g.O.Ordering.ahead c.args.ordering.now in
    let n = c.loop-n.n in
    let inv = c.loop-n.invariant in
    let after = (goal.at.returns-in-Some g c).After-tick in
    let miss = answer_miss ts m (full ts m n) _ c.in-Ok.miss (on g after) (sym c.in-Ok.is ∙ told g after) ∙ c.in-Some.is in
    let ex = g.met.O.Ordering.exclusive c.args.ordering.now in
    let tr = g.met.O.Ordering.transitive c.args.ordering.now in
    let first : (full_miss ts m (n + 1) ≡ Some c.in-Some.task) × ((k : ℕ) → k < n + 1 → full_miss ts m k ≡ None) = (miss_next ts m n ∙ miss, λ k h. inv.3 k (omega arith)) in
    record {
      value = sym (judged_miss ts m c.hyperperiod-n-end.result n (full ts m n) c.in-Some.task c.loop-n-test.true miss) ∙ inv.4;
      says_of_the_endless_schedule = first;
      holds_under_the_background_layer_with_its_own_list_too = tt;
      says_of_every_live_run = says_of_live ts m (tasks_few t) t.timed ex tr (Misses (record { task = c.in-Some.task; instant = n + 1 })) first;
      live_runs_stay_within_the_full_schedule_up_to_its_first_miss = stays_within ts m (tasks_few t) t.timed ex tr;
    }

pub unreachable-requires : goal.unreachable-requires
unreachable-requires g c =
    let ts = tasks_of c.args.table.now in
    let m = g.O.Ordering.ahead c.args.ordering.now in
    let after = (goal.at.unreachable-requires g c).After-tick in
    answer_refused ts m (full ts m c.loop-n.n) _ (on g after) (sym c.in_default.is ∙ told g after)

pub loop-n-preserved : goal.loop-n-preserved
loop-n-preserved g c =
    let t = c.args.table.now in
    let ts = tasks_of t in
    let ahead = g.O.Ordering.ahead in
    let m = ahead c.args.ordering.now in
    let n = c.loop-n.n in
    let run = c.loop-n.run in
    let inv = c.loop-n.invariant in
    let e = c.tick.ensures in
    let after = (goal.at.loop-n-preserved g c).After-tick in
    let miss = answer_miss ts m (full ts m n) _ c.in-Ok.miss (on g after) (sym c.in-Ok.is ∙ told g after) ∙ c.in_default-miss.is in
    let state : state_of_run c.tick.new.self ≡ full ts m (n + 1) =
    e.after
    ∙ same-call ahead ticked t run.table.now c.args.ordering.now run.ordering.now (full ts m n) (state_of_run run) inv.0 inv.1 inv.2
    ∙ sym (full_next ts m n) in (
      ap (λ x. x.now) e.keeps_table ∙ inv.0,
      ap (λ x. x.now) e.keeps_ordering ∙ inv.1,
      state,
      none_more ts m n inv.3 (miss_next ts m n ∙ miss),
      (ap (judged ts m None (c.hyperperiod-n-end.result - (n + 1)) (n + 1)) (full_next ts m n)
          ∙ sym (judged_more ts m c.hyperperiod-n-end.result n (full ts m n) c.loop-n-test.true miss) ∙ inv.4),
    )

pub returns : goal.returns
returns g c =
    let t = c.args.table.now in
    let m = g.O.Ordering.ahead c.args.ordering.now in
    let H = c.hyperperiod-n-end.result in
    let p = hyper_pos (tasks_of t) (positive t) in
    let inv = c.loop-n.invariant in
    let ex = g.met.O.Ordering.exclusive c.args.ordering.now in
    let tr = g.met.O.Ordering.transitive c.args.ordering.now in
    let never = never_misses (tasks_of t) m t.timed H (omega (arith, c.hyperperiod-n-end.ensures.value)) c.hyperperiod-n-end.ensures.least_common_multiple.0 (λ k h. inv.3 k (omega arith)) in
    record {
      value = sym (judged_end (tasks_of t) m H c.loop-n.n (full (tasks_of t) m c.loop-n.n) c.loop-n-test.false) ∙ inv.4;
      says_of_the_endless_schedule = never;
      says_of_every_live_run = says_of_live (tasks_of t) m (tasks_few t) t.timed ex tr Holds never;
      holds_under_the_background_layer_with_its_own_list_too = holds_behind (tasks_of t) m (tasks_few t) t.timed ex tr never;
      live_runs_stay_within_the_full_schedule_up_to_its_first_miss = stays_within (tasks_of t) m (tasks_few t) t.timed ex tr;
    }
