-- What a round can do, case by case.
use Rattle.std.proofs.Common.{◌≡◌, ℕ, ◌<◌, Bool, true, false, cond, ltb, List, get_or, refl, arith}
use Rattle.std.proofs.lemmas.Bool.{ltb-true, ltb-false}
use Rattle.tables.specs.declared.task.Task.{Task}
use Rattle.tables.specs.Tasks.{nobody}
use Rattle.orderings.specs.Meaning.{Meaning}
use Rattle.schedules.specs.declared.verdict.Miss.{Miss}
use Rattle.schedules.specs.declared.verdict.Verdict.{Verdict}
use Rattle.schedules.specs.declared.verdict.Verdict.TheVariants.{Holds, Misses}
use Rattle.searches.specs.declared.search.Stage.{Stage}
use Rattle.searches.specs.declared.search.Stage.TheVariants.{Open, Held, Stuck}
use Rattle.searches.specs.Searches.{Trial, lowered, tried, after_verdict, after_from}

abbrev pub at_stage : List Task → Stage → Trial
at_stage us st = record { tasks = us; stage = st }

module _ (P : Trial → Type 0) (us : List Task) where
  by_time : (x : Miss) (b : Bool) → ltb 0 (get_or us x.task nobody).s ≡ b
      → (0 < (get_or us x.task nobody).s → P (at_stage (lowered us x.task) Open))
      → ((get_or us x.task nobody).s ≡ 0 → P (at_stage us (Stuck x)))
      → P (cond b (at_stage (lowered us x.task) Open) (at_stage us (Stuck x)))
  by_time x true e falls stuck = falls (ltb-true 0 _ e)
  by_time x false e falls stuck = stuck (let h = ltb-false 0 (get_or us x.task nobody).s e in omega arith)

  by_verdict : (v : Verdict)
      → (v ≡ Holds → P (at_stage us Held))
      → ((x : Miss) → v ≡ Misses x → 0 < (get_or us x.task nobody).s → P (at_stage (lowered us x.task) Open))
      → ((x : Miss) → v ≡ Misses x → (get_or us x.task nobody).s ≡ 0 → P (at_stage us (Stuck x)))
      → P (after_verdict us v)
  by_verdict Holds holds falls stuck = holds refl
  by_verdict (Misses x) holds falls stuck = by_time x (ltb 0 (get_or us x.task nobody).s) refl (falls x refl) (stuck x refl)

-- a round does nothing, holds, lowers or is stuck
pub by_round : (P : Trial → Type 0) (lower : Meaning) (us : List Task) (st : Stage)
    → ((st ≡ Open → ⊥) → P (at_stage us st))
    → (st ≡ Open → tried lower us ≡ Holds → P (at_stage us Held))
    → ((x : Miss) → st ≡ Open → tried lower us ≡ Misses x → 0 < (get_or us x.task nobody).s → P (at_stage (lowered us x.task) Open))
    → ((x : Miss) → st ≡ Open → tried lower us ≡ Misses x → (get_or us x.task nobody).s ≡ 0 → P (at_stage us (Stuck x)))
    → P (after_from lower us st)
by_round P lower us Open still holds falls stuck = by_verdict P us (tried lower us) (holds refl) (λ x. falls x refl) (λ x. stuck x refl)
by_round P lower us Held still holds falls stuck = still (λ e. let z : ◌≡◌ {A = ℕ} 0 1 = cc in omega arith)
by_round P lower us (Stuck x) still holds falls stuck = still (λ e. let z : ◌≡◌ {A = ℕ} 0 1 = cc in omega arith)
