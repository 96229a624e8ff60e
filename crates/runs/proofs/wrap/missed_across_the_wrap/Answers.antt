use Rattle.std.proofs.Common.{refl}
use Rattle.runs.proofs.Allowed.{allowed}
use Rattle.runs.proofs.Whole.{whole_run}
use Rattle.runs.proofs.wrap.missed_across_the_wrap.Goals as goal

pub returns : goal.returns
returns c = record {
  run = whole_run;
  admitted = allowed;
  second_misses = refl;
  second_hands_out = refl;
  first_misses_none = refl;
  left_by_first = refl;
  none_has_come = refl;
  all_have_come = refl;
}
