-- The faults of a row.
use Rattle.std.specs.Prelude.{ℕ}
use Rattle.faults.specs.declared.located.Located.{Located}
use Rattle.faults.specs.declared.refusals.Refusal.{Refusal}
use Rattle.faults.specs.declared.units.UnitFault.{UnitFault}
use Rattle.faults.specs.Refusals.{refused}
use Rattle.faults.specs.Units.{told as unit_told}
use Rattle.units.specs.declared.fault.RowFault.{RowFault}
use Rattle.units.specs.declared.fault.RowFault.TheVariants.{List as ListCase, Unit as UnitCase}

-- each told by its number and place: of a unit, its own
abbrev pub told : RowFault → Refusal
told ListCase = refused 12 0
told (UnitCase at) = unit_told at.fault

-- a unit's fault, with its index, as the row's
abbrev pub carried : Located ℕ UnitFault → RowFault
carried at = UnitCase at
