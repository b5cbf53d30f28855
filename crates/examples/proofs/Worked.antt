-- The rows of the worked schedules, by computing.
use Rattle.std.proofs.Common.{◌≡◌, [], fold, refl}
use Rattle.tables.specs.Adding.{tasks_after_adding}
use Rattle.tables.specs.Divisors.{gcd}
use Rattle.tables.specs.Hyperperiod.{hyperperiod_of}
use Rattle.examples.specs.Rows.{K, M, Q, V, WorkedRows}

pub rows : WorkedRows
unfolding hyperperiod_of gcd
rows = record {
  empty_fixed = refl;
  K-fixed = refl;
  K-promoted-at-5 = refl;
  K-promoted-at-6 = refl;
  K-deadline = refl;
  K-first-round = refl;
  K-second-round = refl;
  K-searched = refl;
  K-background = refl;
  M-background = refl;
  Q-background = refl;
  V-fixed-0-1 = refl;
  V-fixed-1-0 = refl;
  K-live = refl;
  K-full = refl;
  Q-laxity-answer = refl;
  Q-laxity = refl;
}

-- every task of the example tables is accepted
pub made_K : fold tasks_after_adding [] (K 6) ≡ K 6
unfolding hyperperiod_of gcd
made_K = refl

pub made_M : fold tasks_after_adding [] M ≡ M
unfolding hyperperiod_of gcd
made_M = refl

pub made_Q : fold tasks_after_adding [] (Q 4 6 12) ≡ Q 4 6 12
unfolding hyperperiod_of gcd
made_Q = refl

pub made_V : fold tasks_after_adding [] (V 0 1) ≡ V 0 1
unfolding hyperperiod_of gcd
made_V = refl

pub made_turned : fold tasks_after_adding [] (V 1 0) ≡ V 1 0
unfolding hyperperiod_of gcd
made_turned = refl
