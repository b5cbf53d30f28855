use Rattle.std.proofs.lemmas.Slice.Eq.{slice_eq-Decides}
use Rattle.tables.proofs.Equal.{same_numbers_decides}
use Rattle.tables.proofs.equality.TablePartialEq.eq.Goals as goal

pub returns-clause-decides : goal.returns-clause-decides
returns-clause-decides c = rw (← c.tasks.ensures, ← c.tasks-2.ensures) (slice_eq-Decides same_numbers_decides _ _ _ c.eq.ensures)
