-- What stands in a bounded list.
use Rattle.std.proofs.Common.{◌≡◌, ℕ, ◌+◌, ◌<◌, ◌≤◌, [], ◌∷◌, ◌++◌, length, take, set, sym, ◌∙◌, arith}
use Rattle.std.proofs.lemmas.List.{take_all, take_at, take_more_set, length-append, length-take-le}
use Rattle.bounded.specs.declared.list.Bounded.{Bounded}
use Rattle.bounded.specs.Lists.{items_of}

module _ {T : Type 0} {N : ℕ} (b : Bounded T N) where
  pub length_items : length (items_of b) ≡ b.count
  length_items = let w = b.wide in let n = b.within in length-take-le b.count b.items (omega arith)

  pub items_few : length (items_of b) ≤ N
  items_few = let n = length_items in let w = b.within in omega arith

  -- nothing is cut off where there is room for one more
  pub all_pushed : (x : T) → length (items_of b) < N → take N (items_of b ++ x ∷ []) ≡ items_of b ++ x ∷ []
  all_pushed x h = take_all N (items_of b ++ x ∷ []) (let n = length-append (items_of b) (x ∷ []) in omega arith)

  -- one item more where there is room, and where there is none
  pub push_with_room : (x : T) → b.count < N → take (b.count + 1) (set b.items b.count x) ≡ take N (items_of b ++ x ∷ [])
  push_with_room x h =
      let w = b.wide in
      let n = length_items in
      take_more_set b.items b.count x (omega arith) ∙ sym (all_pushed x (omega arith))

  pub push_without_room : (x : T) → N ≤ b.count → items_of b ≡ take N (items_of b ++ x ∷ [])
  push_without_room x h = let n = length_items in let w = b.within in sym (take_at (items_of b) (x ∷ []) N (omega arith))
