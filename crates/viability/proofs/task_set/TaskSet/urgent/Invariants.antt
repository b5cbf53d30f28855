use Rattle.std.proofs.Common.{◌≡◌, ℕ, ◌<◌, false, length, get_or}
use Rattle.viability.specs.Laxity.{as_urgent}
use Rattle.viability.proofs.task_set.TaskSet.urgent.Given as goal

abbrev pub invariant-loop-j : goal.invariant-loop-j
invariant-loop-j l =
    record { wide : length l.flags ≡ 32; marked : (k : ℕ) → k < l.j → get_or l.flags k false ≡ as_urgent l.tasks l.i k }
