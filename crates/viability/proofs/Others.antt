-- The tasks of a set other than task i, gathered one after the other.
use Rattle.std.proofs.Common.{◌≡◌, ℕ, suc, ◌+◌, ◌<◌, ◌≤◌, Bool, true, false, cond, not, ◌&&◌, eqb, List, [], ◌∷◌, ◌++◌, length, get_or, take, sym, ap, ◌∙◌, subst, inl, inr, arith}
use Rattle.std.proofs.lemmas.Bool.{cond-true, cond-false, cases_lt}
use Rattle.std.proofs.lemmas.List.{take_all, length_push, get_or_append_left, get_or_push}
use Rattle.std.proofs.lemmas.List.Sums.{sum_by_push}
use Rattle.tables.specs.declared.task.Task.{Task}
use Rattle.tables.specs.Tasks.{nobody, Each, Timed}
use Rattle.viability.specs.Totals.{total}
use Rattle.viability.specs.Viable.{is_in, asked, asked_together}

-- found are the tasks below j that are in the set and not i: each is timed, and together they ask for what those do
abbrev pub OthersBelow : List Task → List Bool → ℕ → ℕ → List Task → Type 0
OthersBelow ts members i j found =
    (length found ≤ j) × Each Timed found
    × ((t : ℕ) → asked_together found t ≡ total (λ k. cond (is_in members k && not (eqb k i)) (asked (get_or ts k nobody) t) 0) j)

module _ (found : List Task) (j : ℕ) (few : length found ≤ j) (room : j < 32) (x : Task) where
  -- no task is cut off
  all_found : take 32 (found ++ x ∷ []) ≡ found ++ x ∷ []
  all_found = let n = length_push found x in take_all 32 (found ++ x ∷ []) (omega arith)

  few_more : length (take 32 (found ++ x ∷ [])) ≤ j + 1
  few_more = let n = length_push found x in let m = ap length all_found in omega arith

  timed_more : Each Timed found → Timed x → Each Timed (take 32 (found ++ x ∷ []))
  timed_more each here =
      subst (Each Timed) (sym all_found) (λ k l.
      let n = length_push found x in
      elim (cases_lt k (length found)) [
        | inl g ↦ subst Timed (sym (get_or_append_left found (x ∷ []) nobody k g)) (each k g)
        | inr g ↦
            let e : k ≡ length found = omega arith in
            subst Timed (sym (get_or_push found x nobody k (sym e))) here
      ])

  asks_more : (ask : ℕ → ℕ) (t : ℕ) → ask j ≡ asked x t → asked_together found t ≡ total ask j → asked_together (take 32 (found ++ x ∷ [])) t ≡ total ask (j + 1)
  asks_more ask t here before =
      let s : suc j ≡ j + 1 = omega arith in
      let sums = sum_by_push (λ y. asked y t) found x in
      let e : asked_together found t + asked x t ≡ total ask j + ask j = omega arith in
      ap (λ ys. asked_together ys t) all_found ∙ sums ∙ e ∙ ap (total ask) s

asks_same : (ask : ℕ → ℕ) (j n : ℕ) → ask j ≡ 0 → n ≡ total ask j → n ≡ total ask (j + 1)
asks_same ask j n here before =
    let s : suc j ≡ j + 1 = omega arith in
    let e : n ≡ total ask j + ask j = omega arith in
    e ∙ ap (total ask) s

module _ (ts : List Task) (members : List Bool) (i j : ℕ) (found : List Task) (below : OthersBelow ts members i j found) where
  pub other_pushed : j < 32 → (is_in members j && not (eqb j i)) ≡ true → Timed (get_or ts j nobody) → OthersBelow ts members i (j + 1) (take 32 (found ++ get_or ts j nobody ∷ []))
  other_pushed room in_set timed =
      let x = get_or ts j nobody in
      let ask : ℕ → ℕ → ℕ = λ t k. cond (is_in members k && not (eqb k i)) (asked (get_or ts k nobody) t) 0 in (
        few_more found j below.0 room x,
        timed_more found j below.0 room x below.1 timed,
        λ t. asks_more found j below.0 room x (ask t) t (cond-true (is_in members j && not (eqb j i)) (asked x t) 0 in_set) (below.2 t),
      )

  pub other_passed_by : (is_in members j && not (eqb j i)) ≡ false → OthersBelow ts members i (j + 1) found
  other_passed_by out =
      let ask : ℕ → ℕ → ℕ = λ t k. cond (is_in members k && not (eqb k i)) (asked (get_or ts k nobody) t) 0 in
      let few = below.0 in
      (omega arith, below.1, λ t. asks_same (ask t) j (asked_together found t) (cond-false (is_in members j && not (eqb j i)) (asked (get_or ts j nobody) t) 0 out) (below.2 t))
