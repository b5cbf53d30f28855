-- The candidates of a set, one task after the other.
use Rattle.std.proofs.Common.{◌≡◌, ℕ, ◌+◌, ◌<◌, ◌≤◌, Bool, true, false, cond, ◌&&◌, List, [], ◌∷◌, ◌++◌, map, length, take, filter, sym, ap, ◌∙◌, arith}
use Rattle.std.specs.List.{range_with_len}
use Rattle.std.proofs.lemmas.Bool.{cond-true, cond-false}
use Rattle.std.proofs.lemmas.List.{append-nil, take_all, length_push}
use Rattle.std.proofs.lemmas.List.FromFn.{filter_of_map_range_with_len_more}
use Rattle.tables.specs.declared.task.Task.{Task}
use Rattle.viability.specs.declared.candidate.Candidate.{Candidate}
use Rattle.viability.specs.Viable.{is_in, viable}
use Rattle.viability.specs.OwnList.{candidate}

-- no candidate is cut off
all_found : (found : List Candidate) (k : ℕ) (x : Candidate) → length found ≤ k → k < 32 → take 32 (found ++ x ∷ []) ≡ found ++ x ∷ []
all_found found k x few room = let n = length_push found x in take_all 32 (found ++ x ∷ []) (omega arith)

pub one_longer : (found : List Candidate) (k : ℕ) (x : Candidate) → length found ≤ k → k < 32 → length (take 32 (found ++ x ∷ [])) ≤ k + 1
one_longer found k x few room = let n = length_push found x in let m = ap length (all_found found k x few room) in omega arith

module _ (ts : List Task) (members : List Bool) where
  abbrev passes : Candidate → Bool
  passes x = is_in members x.task && viable ts members x.task

  -- the candidates whose numbers are below k
  abbrev pub candidates_below : ℕ → List Candidate
  candidates_below k = filter passes (map (candidate ts) (range_with_len 0 k))

  opened : (k : ℕ) → candidates_below (k + 1) ≡ candidates_below k ++ cond (passes (candidate ts k)) (candidate ts k ∷ []) []
  opened k = filter_of_map_range_with_len_more passes (candidate ts) 0 k k (omega arith)

  module _ (found : List Candidate) (k : ℕ) (so_far : found ≡ candidates_below k) where
    pub found_more : length found ≤ k → k < 32 → passes (candidate ts k) ≡ true → take 32 (found ++ candidate ts k ∷ []) ≡ candidates_below (k + 1)
    found_more few room here =
        all_found found k (candidate ts k) few room
        ∙ ap (λ u. u ++ candidate ts k ∷ []) so_far
        ∙ ap (λ u. candidates_below k ++ u) (sym (cond-true (passes (candidate ts k)) (candidate ts k ∷ []) [] here))
        ∙ sym (opened k)

    pub found_same : passes (candidate ts k) ≡ false → found ≡ candidates_below (k + 1)
    found_same here =
        so_far ∙ sym (append-nil (candidates_below k))
        ∙ ap (λ u. candidates_below k ++ u) (sym (cond-false (passes (candidate ts k)) (candidate ts k ∷ []) [] here))
        ∙ sym (opened k)
