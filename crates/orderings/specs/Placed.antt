-- Where a number stands in a list: what a search finds, and that different numbers stand at different places.
use Rattle.std.specs.Prelude.{◌≡◌, ℕ, ◌+◌, ◌<◌, true, false, not, ◌&&◌, ◌≢◌, List, [], ◌∷◌, ◌++◌, length, take, is_some, Some, None, Option, slice_index, slice_set, refl}
use Rattle.std.proofs.Common.{sym, ap, ◌∙◌, inl, inr, arith}
use Rattle.std.proofs.lemmas.Bool.{lt-ltb, cases_lt}
use Rattle.std.proofs.lemmas.List.{get_or_append_left, get_or_push, get_or-take, length_push, take_more_set}
use Rattle.bounded.specs.declared.list.Bounded.{Bounded}
use Rattle.bounded.proofs.Held.{length_items}
use Rattle.orderings.specs.Places.{NoneTwice, place_in, listed}
use Rattle.orderings.specs.FirstPlaces.{none_absent, same_from}
use Rattle.orderings.specs.BackgroundList.{numbers_of, takes_number}
use Rattle.orderings.specs.declared.background_list.BackgroundList.{BackgroundList}

-- different numbers stand at different places
pub place_apart : (xs : List ℕ) (i j : ℕ) → i ≢ j → (p : ℕ) → place_in xs i ≡ Some p → place_in xs j ≢ Some p
place_apart xs i j ne p e f = ne (same_from 0 xs i j p e f)

none_from : (o : Option ℕ) → is_some o ≡ false → o ≡ None
none_from None e = refl
none_from (Some p) e = absurd (cc)

-- one more number, that the list does not have
pub none_twice_push : (xs : List ℕ) (n : ℕ) → NoneTwice xs → is_some (place_in xs n) ≡ false → NoneTwice (xs ++ n ∷ [])
none_twice_push xs n apart new k l kl h =
    let e = length_push xs n in
    let front = get_or_append_left xs (n ∷ []) 0 k (omega arith) in
    elim (cases_lt l (length xs)) [
      | inl g ↦ λ f. apart k l kl g (sym front ∙ f ∙ get_or_append_left xs (n ∷ []) 0 l g)
      | inr g ↦ λ f. none_absent 0 xs n (none_from (place_in xs n) new) k (omega arith) (sym front ∙ f ∙ get_or_push xs n 0 l (omega arith))
    ]

pub takes_new : (xs : List ℕ) (n : ℕ) → length xs < 32 → is_some (place_in xs n) ≡ false → takes_number xs n ≡ true
takes_new xs n h new = ap (λ r. r && not (is_some (place_in xs n))) (lt-ltb (length xs) 32 h) ∙ ap not new

pub numbers_count : (l : BackgroundList) → length (numbers_of l) ≡ l.places.count
numbers_count l = length_items l.places

pub numbers_at : (l : BackgroundList) (k : ℕ) → k < l.places.count → slice_index (numbers_of l) k ≡ slice_index l.places.items k
numbers_at l k h = get_or-take l.places.count l.places.items k 0 h

-- a number written behind the others stands at the end of the list
pub pushed : (l : BackgroundList) (p : Bounded ℕ 32) (n : ℕ) → l.places.count < 32 → p.items ≡ slice_set l.places.items l.places.count n → p.count ≡ l.places.count + 1
    → listed p ≡ numbers_of l ++ n ∷ []
pushed l p n room items count =
    let wide : length l.places.items ≡ 32 = l.places.wide in
    ap (λ k. take k p.items) count ∙ ap (take (l.places.count + 1)) items ∙ take_more_set l.places.items l.places.count n (omega arith)
