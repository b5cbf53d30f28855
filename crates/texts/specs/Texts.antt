-- A text stands for the list of its bytes.
use Rattle.std.specs.Prelude.{ℕ, List, ◌++◌, take}
use Rattle.bounded.specs.Lists.{items_of}
use Rattle.texts.specs.declared.text.Text.{Text}

abbrev pub bytes_of : {N : ℕ} → Text N → List ℕ
bytes_of t = items_of t.list

-- bytes behind others, cut off at the room
unfoldable pub pushed : ℕ → List ℕ → List ℕ → List ℕ
pushed room old new = take room (old ++ new)
