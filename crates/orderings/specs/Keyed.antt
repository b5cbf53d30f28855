-- An ordering by key over a lawful ordering of what has no key keeps the laws.
use Rattle.std.specs.Prelude.{◌≡◌, ℕ, Bool, true, not, ◌≢◌, List, ℤ, Some, None, Option, refl}
use Rattle.std.proofs.Common.{arith}
use Rattle.std.proofs.lemmas.Bool.Decides.{nat_tests}
use Rattle.std.proofs.lemmas.Int.{ints}
use Rattle.tables.specs.declared.task.Task.{Task}
use Rattle.orderings.specs.Meaning.{Meaning, Exclusive, Transitive}
use Rattle.orderings.specs.Keys.{smaller_key, by_key, by_number}
use Rattle.orderings.specs.Promotion.{promotion_key, promotion}
use Rattle.orderings.specs.Laws.{Lawful, unless_same_lawful}

one_smaller : (x y : Option ℤ) (i j : ℕ) (r s : Bool) → i ≢ j → s ≡ not r → smaller_key y j x i s ≡ not (smaller_key x i y j r)
one_smaller (Some x) (Some y) i j r s ne e = grind (arith, ints)
one_smaller (Some x) None i j r s ne e = refl
one_smaller None (Some y) i j r s ne e = refl
one_smaller None None i j r s ne e = e

smaller_chain : (x y z : Option ℤ) (i j k : ℕ) (r s t : Bool) → (r ≡ true → s ≡ true → t ≡ true)
    → smaller_key x i y j r ≡ true → smaller_key y j z k s ≡ true → smaller_key x i z k t ≡ true
smaller_chain (Some x) (Some y) (Some z) i j k r s t rest p q = grind (arith, ints)
smaller_chain (Some x) (Some y) None i j k r s t rest p q = refl
smaller_chain (Some x) None (Some z) i j k r s t rest p q = grind arith
smaller_chain (Some x) None None i j k r s t rest p q = refl
smaller_chain None (Some y) z i j k r s t rest p q = grind arith
smaller_chain None None (Some z) i j k r s t rest p q = grind arith
smaller_chain None None None i j k r s t rest p q = rest p q

-- whatever the key is: over a lawful ordering, and over the task numbers
pub by_key_lawful : (key : ℕ → ℕ → Option ℤ) (m : Meaning) → Exclusive m → Transitive m → Lawful (by_key key m)
by_key_lawful key m exclusive transitive =
    unless_same_lawful (λ i a j b. smaller_key (key i a) i (key j b) j (m i a j b))
    (λ i a j b hi ha hj hb ne. one_smaller (key i a) (key j b) i j (m i a j b) (m j b i a) ne (exclusive i a j b hi ha hj hb ne))
    (λ i a j b k c hi ha hj hb hk hc ij jk ik. smaller_chain (key i a) (key j b) (key k c) i j k (m i a j b) (m j b k c) (m i a k c) (transitive i a j b k c hi ha hj hb hk hc ij jk ik))

by_number_exclusive : Exclusive by_number
by_number_exclusive i a j b hi ha hj hb ne = grind (arith, nat_tests)

by_number_transitive : Transitive by_number
by_number_transitive i a j b k c hi ha hj hb hk hc ij jk ik p q = grind (arith, nat_tests)

pub key_then_number : (key : ℕ → ℕ → Option ℤ) → Lawful (by_key key by_number)
key_then_number key = by_key_lawful key by_number by_number_exclusive by_number_transitive

pub promotion_lawful : (ts : List Task) (m : Meaning) → Exclusive m → Transitive m → Lawful (promotion ts m)
promotion_lawful ts = by_key_lawful (promotion_key ts)
