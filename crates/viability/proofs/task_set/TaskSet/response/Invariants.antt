use Rattle.std.proofs.Common.{◌≡◌, ◌+◌, ◌-◌, ◌≤◌, leb}
use Rattle.firsts.specs.Lowest.{lowest}
use Rattle.viability.specs.Viable.{load, response}
use Rattle.viability.specs.TaskSets.{members_of}
use Rattle.viability.proofs.task_set.TaskSet.response.Given as goal

-- what is left of the search finds what the whole search does
abbrev pub invariant-loop-t : goal.invariant-loop-t
invariant-loop-t l =
    (1 ≤ l.t) × (l.t ≤ l.own.d + 1)
    × (lowest (λ t. leb (load l.self.tasks.now (members_of l.self) l.i t) t) l.t (l.own.d + 1 - l.t) ≡ response l.self.tasks.now (members_of l.self) l.i)

abbrev pub decreases-loop-t : goal.decreases-loop-t
decreases-loop-t l = l.own.d + 1 - l.t
