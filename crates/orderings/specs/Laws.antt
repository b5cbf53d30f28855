-- The three laws together, and an ordering that is asked about different tasks only.
use Rattle.std.specs.Prelude.{◌≡◌, ℕ, false, cond, not, ◌≢◌, ◌==◌, refl}
use Rattle.std.proofs.Common.{sym, ap, ◌∙◌}
use Rattle.std.proofs.lemmas.Bool.{cond-true, cond-false, eq-eqb, ne_eqb}
use Rattle.orderings.specs.Meaning.{Meaning, Exclusive, Transitive, Irreflexive}

pub record Lawful (m : Meaning) : Type 0 where
  pub exclusive : Exclusive m
  pub transitive : Transitive m
  pub irreflexive : Irreflexive m

-- never ahead of the same task, and else as m says
abbrev pub unless_same : Meaning → Meaning
unless_same m i a j b = cond (i == j) false (m i a j b)

different : (m : Meaning) (i a j b : ℕ) → i ≢ j → unless_same m i a j b ≡ m i a j b
different m i a j b ne = cond-false (i == j) false (m i a j b) (ne_eqb i j ne)

pub unless_same_lawful : (m : Meaning) → Exclusive m → Transitive m → Lawful (unless_same m)
unless_same_lawful m exclusive transitive =
    record {
      exclusive = λ i a j b hi ha hj hb ne.
          different m j b i a (λ e. ne (sym e)) ∙ exclusive i a j b hi ha hj hb ne ∙ ap not (sym (different m i a j b ne));
      transitive = λ i a j b k c hi ha hj hb hk hc ij jk ik p q.
          different m i a k c ik ∙ transitive i a j b k c hi ha hj hb hk hc ij jk ik (sym (different m i a j b ij) ∙ p) (sym (different m j b k c jk) ∙ q);
      irreflexive = λ i a b hi ha hb. cond-true (i == i) false (m i a i b) (eq-eqb i i refl);
    }
