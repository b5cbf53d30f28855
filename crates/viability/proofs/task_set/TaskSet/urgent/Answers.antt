use Rattle.std.proofs.Common.{◌≡◌, ℕ, ◌+◌, ◌<◌, ◌≤◌, Bool, false, List, map, length, get_or, set, take, sym, ap, ◌∙◌, subst, rules, arith}
use Rattle.std.specs.List.{range_with_len}
use Rattle.std.proofs.lemmas.List.{length-set, length-take-le, get_or-take}
use Rattle.std.proofs.lemmas.List.FromFn.{fill_by_all}
use Rattle.std.proofs.lemmas.List.Edits.{fill_by_more}
use Rattle.tables.proofs.Counted.{tasks_few}
use Rattle.viability.specs.Laxity.{as_urgent, urgent_set}
use Rattle.viability.proofs.task_set.TaskSet.urgent.Goals as goal

-- the first flags, where each is written
front_filled : (f : ℕ → Bool) (flags : List Bool) (n : ℕ) → n ≤ length flags → ((k : ℕ) → k < n → get_or flags k false ≡ f k) → take n flags ≡ map f (range_with_len 0 n)
front_filled f flags n h done = fill_by_all f (take n flags) n false (length-take-le n flags h) (λ k l. get_or-take n flags k false l ∙ done k l)

pub loop-j-preserved : goal.loop-j-preserved
loop-j-preserved c =
    let ts = c.tasks-tasks.result.now in
    let flags = c.loop-j.flags in
    let j = c.loop-j.j in
    let n = ap length c.tasks-tasks.ensures in
    let few = tasks_few c.args.table.now in
    let wide = c.loop-j.invariant.wide in
    let room : j < length flags = (let more = c.loop-j-test.true in omega arith) in
    let is : c.le.result ≡ as_urgent ts c.args.i j = search rules in
    record {
      wide = length-set flags j _ ∙ c.loop-j.invariant.wide;
      marked = subst (λ b. (k : ℕ) → k < j + 1 → get_or (set flags j b) k false ≡ as_urgent ts c.args.i k) (sym is)
          (fill_by_more (as_urgent ts c.args.i) flags j false room c.loop-j.invariant.marked);
    }

pub returns-clause-members : goal.returns-clause-members
returns-clause-members c =
    let ts = c.tasks-tasks.result.now in
    let i = c.args.i in
    let same : c.of.result.tasks.now ≡ ts = c.of.ensures.of_table ∙ sym c.tasks-tasks.ensures in
    let n = ap length same in
    let few = c.of.result.few in
    let wide = c.loop-j.invariant.wide in
    ap (λ us. take (length us) c.of.result.flags) same ∙ ap (take (length ts)) c.of.ensures.flagged
    ∙ front_filled (as_urgent ts i) c.loop-j.flags (length ts) (omega arith) (λ k h. c.loop-j.invariant.marked k (omega arith))
    ∙ ap (λ us. urgent_set us i) c.tasks-tasks.ensures
