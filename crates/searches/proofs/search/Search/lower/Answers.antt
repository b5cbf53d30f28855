use Rattle.std.proofs.Common.{rules}
use Rattle.searches.proofs.Lowered.{no_time_past}
use Rattle.searches.proofs.search.Search.lower.Goals as goal

pub returns-in_default : goal.returns-in_default
returns-in_default g c = search (rules, no_time_past)
