use Rattle.std.proofs.Common.{◌≡◌, ◌*◌, List, ◌++◌, length, drop}
use Rattle.units.proofs.Rows.{Reached}
use Rattle.units.proofs.reading.fill_row.Given as goal

abbrev pub invariant-loop-slot : goal.invariant-loop-slot
invariant-loop-slot g l =
    (us : List g.row.K-Unit.Denot) × Reached (4 * g.K.Kind.size) g.K.Kind.heard (length l.initial.slot-items) l.bytes l.slot-index l.rest us
    × (l.slot-items ≡ us ++ drop l.slot-index l.initial.slot-items)
