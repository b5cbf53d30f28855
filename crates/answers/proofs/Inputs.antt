-- A piece of an input behind the pieces before it.
use Rattle.std.proofs.Common.{◌≡◌, ℕ, ◌+◌, ◌≤◌, List, ◌++◌, length, take, Option, sym, ap, ◌∙◌, subst}
use Rattle.std.proofs.Math.Seq.{take-append-add}
use Rattle.std.proofs.lemmas.List.{length-take-le, take-append-le}
use Rattle.std.specs.Io.KnownBytes.{Consumes}
use Rattle.std.proofs.KnownBytes.{Consumes-trans}
use borrow.Rule.Slice.PartMut.{put_mid, post_of}

-- the front after m bytes of a piece were written behind n bytes
front_grows : (n m k : ℕ) (xs ys : List ℕ) → n ≤ length xs → m ≤ length ys → take (n + m) (put_mid n k xs ys) ≡ take n xs ++ take m ys
front_grows n m k xs ys h g =
    let front = length-take-le n xs h in
    ap (λ i. take (i + m) (take n xs ++ (ys ++ post_of n k xs))) (sym front)
    ∙ take-append-add (take n xs) (ys ++ post_of n k xs) m
    ∙ ap (λ l. take n xs ++ l) (take-append-le m ys (post_of n k xs) g)

pub taken_more : (a b c : Option (List ℕ)) (n m k : ℕ) (xs ys : List ℕ) → n ≤ length xs → m ≤ length ys
    → Consumes a b (take n xs) → Consumes b c (take m ys) → Consumes a c (take (n + m) (put_mid n k xs ys))
taken_more a b c n m k xs ys h g p q = subst (Consumes a c) (sym (front_grows n m k xs ys h g)) (Consumes-trans a b c (take n xs) (take m ys) p q)
