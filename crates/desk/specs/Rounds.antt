-- How many rounds a search takes.
use Rattle.std.specs.Prelude.{ℕ, ◌≢◌, List}
use Rattle.tables.specs.declared.task.Task.{Task}
use Rattle.orderings.specs.Meaning.{Meaning}
use Rattle.searches.specs.declared.search.Stage.TheVariants.{Open}
use Rattle.searches.specs.SearchLaws.{stage_after}

-- whatever the ordering below, a new search on the tasks is open no more after n rounds
abbrev pub EndsEverySearch : List Task → ℕ → Type 0
EndsEverySearch ts n = (lower : Meaning) → stage_after ts lower n ≢ Open
