-- A task with another promotion time in its place.
use Rattle.std.proofs.Common.{◌≡◌, ℕ, ◌<◌, ◌≤◌, List, length, get_or, set, Some, None, arith}
use Rattle.std.proofs.lemmas.Grind.{common_steps}
use Rattle.tables.specs.declared.task.Task.{Task}
use Rattle.tables.specs.Tasks.{Each, nobody}
use Rattle.tables.specs.Tables.{task_at}
use Rattle.tables.specs.Setting.{set_fault, with_promotion, OnlyPromotion}

pub each_set : (P : Task → Type 0) (ts : List Task) (i : ℕ) (x : Task) → i < length ts → Each P ts → P x → Each P (set ts i x)
each_set P ts i x h all p k l = grind (arith, common_steps)

module _ (ts : List Task) (i s : ℕ) where
  pub at_some : (x : Task) → task_at ts i ≡ Some x → (i < length ts) × (get_or ts i nobody ≡ x)
  at_some x e = grind (arith, common_steps)

  pub fault_nothing : i < length ts → s ≤ (get_or ts i nobody).d → set_fault ts i s ≡ None
  fault_nothing h l = grind (arith, common_steps)

  pub only_promotion : i < length ts → OnlyPromotion ts (set ts i (with_promotion (get_or ts i nobody) s)) i s
  only_promotion h = grind (arith, common_steps)
