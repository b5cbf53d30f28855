use Rattle.std.proofs.Common.{rules, ◌≡◌, ℕ, ◌+◌, Bool, eqb, map, length, get_or, sym, ap, ◌∙◌, arith}
use Rattle.std.proofs.lemmas.List.{ext_get_or, length-map}
use Rattle.tables.specs.Tasks.{nobody}
use Rattle.firsts.specs.Lowest.{lowest}
use Rattle.schedules.specs.Units.{nothing, at, older, late}
use Rattle.schedules.proofs.Slots.{older_at}
use Rattle.firsts.proofs.Lowests.{lowest_same}
use Rattle.schedules.proofs.Loops.{miss_found, miss_passed, none_due_more}
use Rattle.schedules.proofs.steps.grow.Goals as goal
use Rattle.schedules.proofs.steps.grow.Goals.{then-is_late, else-is_late}

pub loop-k-preserved : goal.loop-k-preserved
loop-k-preserved c =
    let xs = c.args.slots.now in
    let ts = c.args.tasks.now in
    let ys = c.loop-k.slots in
    let k = c.loop-k.k in
    let inv = c.loop-k.invariant in
    let e : older (at ys k) ≡ older (at xs k) = ap older (inv.1 k (omega arith)) in
    let p : ℕ → Bool = λ i. late (get_or c.args.tasks.now i nobody) (older (at xs i)) in
    let here : c.is_late.result ≡ p k = c.is_late.ensures ∙ ap (late (get_or c.args.tasks.now k nobody)) e in (
      (search rules),
      (search rules),
      none_due_more (λ i. eqb ((at xs i).age + 1) (get_or ts i nobody).t) c.loop-k.due _ k inv.2 (ap (λ x. eqb x.age (get_or ts k nobody).t) e),
      elim c.if-is_late.branch [
        | then-is_late w ↦ w.miss-is ∙ w.or-miss.ensures ∙ miss_found p k c.loop-k.miss inv.3 (sym here ∙ w.if-is_late.true)
        | else-is_late w ↦ w.miss-is ∙ miss_passed p k c.loop-k.miss inv.3 (sym here ∙ w.if-is_late.false)
      ],
    )

pub returns : goal.returns
returns c =
    let xs = c.args.slots.now in
    let ts = c.args.tasks.now in
    let n : length (map older xs) ≡ length xs = length-map xs older in
    let all : c.loop-k.k ≡ length (map older xs) = omega arith in
    record {
      after = ext_get_or nothing c.loop-k.slots (map older xs) (c.loop-k.auto.slots ∙ sym n) (λ i h. c.loop-k.invariant.0 i (omega arith) ∙ sym (older_at xs i (omega arith)));
      due = λ none k h. ap (λ x. eqb x.age (get_or ts k nobody).t) (c.loop-k.invariant.0 k (omega arith)) ∙ c.loop-k.invariant.2 none k (omega arith);
      miss = c.loop-k.invariant.3 ∙ ap (lowest (λ i. late (get_or ts i nobody) (older (at xs i))) 0) all
          ∙ lowest_same (λ i. late (get_or ts i nobody) (older (at xs i))) (λ i. late (get_or ts i nobody) (at (map older xs) i)) 0 (length (map older xs))
          (λ i h. ap (late (get_or ts i nobody)) (sym (older_at xs i (omega arith))));
    }
