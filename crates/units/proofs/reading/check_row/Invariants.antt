use Rattle.std.proofs.Common.{◌*◌, List}
use Rattle.units.proofs.Rows.{Reached}
use Rattle.units.proofs.reading.check_row.Given as goal

abbrev pub invariant-loop-i : goal.invariant-loop-i
invariant-loop-i g l = (us : List g.row.K-Unit.Denot) × Reached (4 * g.K.Kind.size) g.K.Kind.heard l.count l.bytes l.i l.rest us
