use Rattle.std.proofs.Common.{ap, ◌∙◌}
use Rattle.tables.specs.Tables.{tasks_of}
use Rattle.searches.specs.declared.search.Stage.TheVariants.{Open}
use Rattle.searches.proofs.Rounds.{at_stage}
use Rattle.searches.proofs.Searched.{never_rise, only_promotions, held_holds, stuck_misses, ends}
use Rattle.searches.proofs.search.Search.new.Goals as goal

pub returns : goal.returns
returns g c =
    let ts = tasks_of c.args.table.now in
    let m = g.O.Ordering.ahead c.args.lower in
    record {
      begins = ap (λ us. at_stage us Open) (ap tasks_of c.new.ensures.keeps_table ∙ c.at_deadlines.ensures);
      keeps_lower = c.new.ensures.keeps_lower;
      promotions_never_rise = never_rise ts m;
      only_promotions_change_and_stay_within_deadlines = only_promotions ts m;
      held_is_holding = held_holds ts m;
      stuck_is_missing_at_zero = stuck_misses ts m;
      ends_within_the_sum_of_deadlines = ends ts m;
    }
