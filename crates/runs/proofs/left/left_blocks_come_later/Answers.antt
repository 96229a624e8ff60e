use Rattle.std.proofs.Common.{refl}
use Rattle.runs.proofs.Later.{left_run, left_allowed}
use Rattle.runs.proofs.left.left_blocks_come_later.Goals as goal

pub returns : goal.returns
returns c = record { run = left_run; admitted = left_allowed; left_by_first = refl; accepted_later = refl; none_has_come = refl; all_have_come = refl }
