use Rattle.std.proofs.Common.{leb, get_or, sym, ◌∙◌, arith}
use Rattle.tables.specs.Tasks.{nobody}
use Rattle.firsts.proofs.Lowests.{lowest_range}
use Rattle.viability.specs.Viable.{load}
use Rattle.viability.specs.TaskSets.{members_of}
use Rattle.viability.proofs.laxity.lax_time.Goals as goal

pub overflow_sub-result : goal.overflow_sub-result
overflow_sub-result c =
    let set = c.urgent-set.result in
    let i = c.args.i in
    let r = lowest_range (λ t. leb (load set.tasks.now (members_of set) i t) t) 1 (get_or set.tasks.now i nobody).d c.in_ok-r.r (sym c.response.ensures ∙ c.in_ok-r.was) in
    omega arith
