-- A background layer over a lawful ordering keeps the laws.
use Rattle.std.specs.Prelude.{◌≡◌, ℕ, Bool, true, not, List, Some, None, Option, ◌≢◌, refl}
use Rattle.std.proofs.Common.{ap, sym, arith}
use Rattle.std.proofs.lemmas.Bool.Decides.{nat_tests}
use Rattle.orderings.specs.Meaning.{Meaning, Exclusive, Transitive}
use Rattle.orderings.specs.Places.{place_in}
use Rattle.orderings.specs.Background.{stands_later, background}
use Rattle.orderings.specs.Laws.{Lawful, unless_same_lawful}
use Rattle.orderings.specs.Placed.{place_apart}

one_later : (x y : Option ℕ) (r s : Bool) → ((p : ℕ) → x ≡ Some p → y ≢ Some p) → s ≡ not r → stands_later y x s ≡ not (stands_later x y r)
one_later (Some x) (Some y) r s apart e =
    let ne : x ≡ y → ⊥ = λ q. apart x refl (ap Some (sym q)) in grind (arith, nat_tests)
one_later (Some x) None r s apart e = refl
one_later None (Some y) r s apart e = refl
one_later None None r s apart e = e

later_chain : (x y z : Option ℕ) (r s t : Bool) → (r ≡ true → s ≡ true → t ≡ true)
    → stands_later x y r ≡ true → stands_later y z s ≡ true → stands_later x z t ≡ true
later_chain (Some x) (Some y) (Some z) r s t rest p q = grind (arith, nat_tests)
later_chain (Some x) (Some y) None r s t rest p q = q
later_chain (Some x) None z r s t rest p q = grind arith
later_chain None (Some y) (Some z) r s t rest p q = refl
later_chain None (Some y) None r s t rest p q = grind arith
later_chain None None (Some z) r s t rest p q = refl
later_chain None None None r s t rest p q = rest p q

pub background_lawful : (xs : List ℕ) (m : Meaning) → Exclusive m → Transitive m → Lawful (background xs m)
background_lawful xs m exclusive transitive =
    unless_same_lawful (λ i a j b. stands_later (place_in xs i) (place_in xs j) (m i a j b))
    (λ i a j b hi ha hj hb ne. one_later (place_in xs i) (place_in xs j) (m i a j b) (m j b i a) (place_apart xs i j ne) (exclusive i a j b hi ha hj hb ne))
    (λ i a j b k c hi ha hj hb hk hc ij jk ik. later_chain (place_in xs i) (place_in xs j) (place_in xs k) (m i a j b) (m j b k c) (m i a k c) (transitive i a j b k c hi ha hj hb hk hc ij jk ik))
