-- A bounded list stands for the list of its items.
use Rattle.std.specs.Prelude.{ℕ, List, take}
use Rattle.bounded.specs.declared.list.Bounded.{Bounded}

abbrev pub items_of : {T : Type 0} → {N : ℕ} → Bounded T N → List T
items_of b = take b.count b.items
