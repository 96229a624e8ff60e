-- The upper half of a subframe's label.
use Rattle.std.specs.Prelude.{ℕ, cond, Ok, Err, Result, ◌==◌}
use Rattle.faults.specs.declared.units.UnitFault.{UnitFault}
use Rattle.faults.specs.Units.{field}
use Rattle.quadlets.specs.declared.marker.Marker.{Marker}
use Rattle.quadlets.specs.declared.marker.Marker.TheVariants.{Second, First, Start}

-- the upper half that a marker makes
abbrev pub marked : Marker → ℕ
marked Second = 0
marked First = 1
marked Start = 3

-- the marker that makes it
abbrev pub made : ℕ → Result Marker UnitFault
made upper = cond (upper == 0) (Ok Second) (cond (upper == 1) (Ok First) (cond (upper == 3) (Ok Start) (Err field)))
