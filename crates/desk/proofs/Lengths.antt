-- How long the printed words are.
use Rattle.std.proofs.Common.{◌≤◌, length, lit≤}
use Rattle.desk.specs.declared.naming.Base.TheVariants.{Fixed, Deadline, TwoPhase}
use Rattle.desk.specs.declared.naming.Named.{Named}
use Rattle.desk.specs.declared.naming.Named.TheVariants.{Plain, Promotion, Background}
use Rattle.searches.specs.declared.search.Round.{Round}
use Rattle.searches.specs.declared.search.Round.TheVariants.{Lowered, Held, Stuck}
use Rattle.desk.specs.Words.{named_text, promotion_text, background_text}
use Rattle.desk.specs.Printed.{round_word}

pub name_short : (n : Named) → length (named_text n) ≤ 25
unfolding promotion_text background_text
name_short (Plain Fixed) = lit≤ tt
name_short (Plain Deadline) = lit≤ tt
name_short (Plain TwoPhase) = lit≤ tt
name_short (Promotion Fixed) = lit≤ tt
name_short (Promotion Deadline) = lit≤ tt
name_short (Promotion TwoPhase) = lit≤ tt
name_short (Background Fixed) = lit≤ tt
name_short (Background Deadline) = lit≤ tt
name_short (Background TwoPhase) = lit≤ tt

pub round_word_short : (r : Round) → length (round_word r) ≤ 8
round_word_short (Lowered i) = lit≤ tt
round_word_short Held = lit≤ tt
round_word_short (Stuck x) = lit≤ tt
