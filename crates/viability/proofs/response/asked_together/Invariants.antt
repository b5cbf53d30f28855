use Rattle.std.proofs.Common.{◌≡◌, ◌*◌, ◌≤◌, take}
use Rattle.viability.specs.Viable.{asked_together}
use Rattle.viability.proofs.response.asked_together.Given as goal

-- what the tasks before the place of x ask for
abbrev pub invariant-loop-x : goal.invariant-loop-x
invariant-loop-x l =
    record {
      value : l.sum ≡ asked_together (take l.x-index l.tasks) l.t;
      bound : l.sum ≤ 2000000000000 * l.x-index;
    }
