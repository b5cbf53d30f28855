-- The tasks of a table's own background list: each was viable within the tasks that were not taken before it.
use Rattle.std.proofs.Common.{◌≡◌, ℕ, zero, suc, ◌+◌, ◌<◌, ◌≤◌, Bool, true, false, cond, ◌&&◌, eqb, leb, List, [], ◌∷◌, map, length, get_or, is_some, Some, None, Option, sym, refl, ap, ◌∙◌, inl, inr, arith}
use Rattle.std.specs.List.{range_with_len}
use Rattle.std.proofs.Math.Bool.{and-true}
use Rattle.std.proofs.lemmas.Bool.{cases_eq, cond-true, cond-false, eq-eqb, ne_eqb, le-leb, lt-leb, leb-true, and_parts, and_left, and_right, false≢true}
use Rattle.std.proofs.lemmas.List.{get_or-set_other, get_or-map}
use Rattle.std.proofs.ByRecursion.{all_kept_by, kept_by_passes, All-map, All-from_get_or}
use Rattle.std.proofs.lemmas.List.FromFn.{length-range_with_len, get_or-range_with_len}
use Rattle.tables.specs.declared.task.Task.{Task}
use Rattle.tables.specs.Tasks.{nobody}
use Rattle.orderings.specs.Places.{place_from, place_in}
use Rattle.firsts.specs.Lowest.{lowest}
use Rattle.firsts.proofs.Firsts.{first_in, all_in}
use Rattle.viability.specs.declared.candidate.Candidate.{Candidate}
use Rattle.viability.specs.Viable.{is_in, load, viable}
use Rattle.viability.specs.OwnList.{later, candidate, candidates, next_taken, without, taken_from, everyone, own_list}

-- a search that finds something finds it among the numbers looked at
lowest_within : (p : ℕ → Bool) (a n : ℕ) → is_some (lowest p a n) ≡ true → (t : ℕ) × (a ≤ t) × (t < a + n) × (p t ≡ true)
lowest_within p a zero e = absurd (false≢true e)
lowest_within p a (suc n) e =
    let P : Bool → Type 0 = λ v. p a ≡ v → is_some (cond v (Some a) (lowest p (a + 1) n)) ≡ true → (t : ℕ) × (a ≤ t) × (t < a + suc n) × (p t ≡ true) in
    (elim (p a) as P [
      | true ↦ λ here _. (a, omega arith, omega arith, here)
      | false ↦ λ here h. let r = lowest_within p (a + 1) n h in (r.0, omega arith, omega arith, r.3)
    ]) refl e

-- within the deadline of a viable task there is a time in which its load is worked off
pub viable_response : (ts : List Task) (members : List Bool) (i : ℕ) → viable ts members i ≡ true
    → (t : ℕ) × (1 ≤ t) × (t ≤ (get_or ts i nobody).d) × (load ts members i t ≤ t)
viable_response ts members i e =
    let r = lowest_within (λ t. leb (load ts members i t) t) 1 (get_or ts i nobody).d e in
    (r.0, r.1, omega arith, leb-true (load ts members i r.0) r.0 r.3)

-- the one that is taken next is a task of the set, and viable within it
pub next_is : (ts : List Task) (members : List Bool) (x : Candidate) → next_taken ts members ≡ Some x
    → (x.task < length ts) × (is_in members x.task ≡ true) × (viable ts members x.task ≡ true)
next_is ts members x e =
    let here = first_in later x (candidates ts members) e in
    let test : Candidate → Bool = λ y. is_in members y.task && viable ts members y.task in
    let all = map (candidate ts) (range_with_len 0 (length ts)) in
    let Numbered : Candidate → Type 0 = λ y. y.task < length ts in
    let numbered = All-map Numbered (candidate ts) (range_with_len 0 (length ts))
    (All-from_get_or (λ k. k < length ts) (range_with_len 0 (length ts)) 0
    (λ i h. let n = length-range_with_len 0 (length ts) in let at = get_or-range_with_len 0 (length ts) i 0 (omega arith) in omega arith)) in
    let passed = and_parts (is_in members x.task) (viable ts members x.task) (all_in (λ y. test y ≡ true) (candidates ts members) x (kept_by_passes test all) here) in
    (all_in Numbered (candidates ts members) x (all_kept_by test Numbered all numbered) here, passed.0, passed.1)

-- taken at place p or later, or not at all
abbrev pub not_before : ℕ → Option ℕ → Bool
not_before p None = true
not_before p (Some q) = leb p q

-- no place is before the one that the count begins with
none_before : (m k : ℕ) (xs : List ℕ) (n : ℕ) → m ≤ k → not_before m (place_from k xs n) ≡ true
none_before m k [] n h = refl
none_before m k (x ∷ xs) n h =
    let P : Bool → Type 0 = λ v. not_before m (cond v (Some k) (place_from (k + 1) xs n)) ≡ true in
    elim (eqb x n) as P [ true ↦ le-leb m k h | false ↦ none_before m (k + 1) xs n (omega arith) ]

place_least : (k : ℕ) (xs : List ℕ) (n p : ℕ) → place_from k xs n ≡ Some p → k ≤ p
place_least k xs n p e = leb-true k p (sym (ap (not_before k) e) ∙ none_before k k xs n (omega arith))

-- who leaves a set is not in it
pub left_out : (members : List Bool) (k : ℕ) → is_in (without members k) k ≡ false
left_out [] k = refl
left_out (m ∷ ms) zero = refl
left_out (m ∷ ms) (suc k) = left_out ms k

module _ (ts : List Task) where
  -- the set within which task b was viable, where b stands at place p of what is taken from a set
  record Within (members : List Bool) (k : ℕ) (taken : List ℕ) (b p : ℕ) : Type 0 where
    pub left : List Bool
    pub of_table : b < length ts
    pub inside : is_in left b ≡ true
    pub good : viable ts left b ≡ true
    pub same : (j : ℕ) → is_in left j ≡ (is_in members j && not_before p (place_from k taken j))

  nowhere : (members : List Bool) (k b p : ℕ) → None ≡ Some p → Within members k [] b p
  nowhere members k b p e = let z : ◌≡◌ {A = ℕ} 0 1 = cc in absurd (let w : ⊥ = omega arith in w)

  -- the first that is taken
  first_within : (members : List Bool) (x : Candidate) (k : ℕ) (rest : List ℕ) (b p : ℕ) → next_taken ts members ≡ Some x → x.task ≡ b
      → place_from k (x.task ∷ rest) b ≡ Some p → Within members k (x.task ∷ rest) b p
  first_within members x k rest b p e at f =
      let r = next_is ts members x e in
      let here : place_from k (x.task ∷ rest) b ≡ Some k = cond-true (eqb x.task b) (Some k) (place_from (k + 1) rest b) (eq-eqb x.task b at) in
      let first : k ≡ p = cc in
      record {
        left = members;
        of_table = let low = r.0 in omega arith;
        inside = ap (is_in members) (sym at) ∙ r.1;
        good = ap (viable ts members) (sym at) ∙ r.2;
        same = λ j. sym (and-true (is_in members j)) ∙ ap (λ v. is_in members j && v) (sym (none_before p k (x.task ∷ rest) j (omega arith)));
      }

  -- one that is taken after x
  later_within : (members : List Bool) (x : Candidate) (k : ℕ) (rest : List ℕ) (b p : ℕ) → k + 1 ≤ p
      → Within (without members x.task) (k + 1) rest b p → Within members k (x.task ∷ rest) b p
  later_within members x k rest b p after w =
      record {
        left = w.left;
        of_table = w.of_table;
        inside = w.inside;
        good = w.good;
        same = λ j. elim (cases_eq x.task j) [
          | inl e ↦
              let here : place_from k (x.task ∷ rest) j ≡ Some k = cond-true (eqb x.task j) (Some k) (place_from (k + 1) rest j) (eq-eqb x.task j e) in
              let gone : is_in (without members x.task) j ≡ false = ap (is_in (without members x.task)) (sym e) ∙ left_out members x.task in
              w.same j ∙ and_left _ _ gone ∙ sym (and_right (is_in members j) _ (ap (not_before p) here ∙ lt-leb p k (omega arith)))
          | inr ne ↦
              let there : place_from k (x.task ∷ rest) j ≡ place_from (k + 1) rest j = cond-false (eqb x.task j) (Some k) (place_from (k + 1) rest j) (ne_eqb x.task j ne) in
              w.same j ∙ ap (λ u. u && not_before p (place_from (k + 1) rest j)) (get_or-set_other members x.task j false false (λ q. ne (sym q)))
              ∙ ap (λ o. is_in members j && not_before p o) (sym there)
        ];
      }

  taken_within : (members : List Bool) (next : Option Candidate) (n k : ℕ) → next_taken ts members ≡ next → (b p : ℕ)
      → place_from k (taken_from ts members next n) b ≡ Some p → Within members k (taken_from ts members next n) b p
  taken_within members None n k e b p f = nowhere members k b p f
  taken_within members (Some x) zero k e b p f = nowhere members k b p f
  taken_within members (Some x) (suc n) k e b p f =
      let left = without members x.task in
      let rest = taken_from ts left (next_taken ts left) n in
      elim (cases_eq x.task b) [
        | inl at ↦ first_within members x k rest b p e at f
        | inr ne ↦
            let there : place_from (k + 1) rest b ≡ Some p = sym (cond-false (eqb x.task b) (Some k) (place_from (k + 1) rest b) (ne_eqb x.task b ne)) ∙ f in
            later_within members x k rest b p (place_least (k + 1) rest b p there) (taken_within left (next_taken ts left) n (k + 1) refl b p there)
      ]

-- a task of the list was viable within the tasks that were not taken before it
pub own_viable : (ts : List Task) (b p : ℕ) → place_in (own_list ts) b ≡ Some p
    → (members : List Bool) × (b < length ts) × (is_in members b ≡ true) × (viable ts members b ≡ true)
    × ((j : ℕ) → j < length ts → is_in members j ≡ not_before p (place_in (own_list ts) j))
own_viable ts b p e =
    let w = taken_within ts (everyone ts) (next_taken ts (everyone ts)) (length ts) 0 refl b p e in
    (w.left, w.of_table, w.inside, w.good, λ j h. w.same j ∙ ap (λ u. u && not_before p (place_in (own_list ts) j)) (get_or-map (λ _. true) ts j nobody false h))
