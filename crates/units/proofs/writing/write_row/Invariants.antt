use Rattle.std.proofs.Common.{◌≡◌, ◌*◌, ◌++◌, take, drop}
use Rattle.std.specs.List.{flat_map}
use Rattle.units.proofs.writing.write_row.Given as goal

abbrev pub invariant-loop-i : goal.invariant-loop-i
invariant-loop-i g l = l.out ≡ flat_map g.K.Kind.code (take l.i l.units) ++ drop (4 * g.K.Kind.size * l.i) l.initial.out
