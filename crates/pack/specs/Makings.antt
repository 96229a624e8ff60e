-- Packs made from bare numbers.
use Rattle.std.specs.Prelude.{cond, ◌||◌, ℤ, Ok, Err, Result}
use Rattle.faults.specs.declared.units.UnitFault.{UnitFault}
use Rattle.faults.specs.Units.{field}
use Rattle.kinds.specs.Bits.{outside, signed}
use Rattle.pack.specs.declared.unit.PackUnit.{PackUnit}

abbrev pub pack : ℤ → ℤ → ℤ → ℤ → PackUnit
pack a b c d = record { first = signed a; second = signed b; third = signed c; fourth = signed d }

-- a pack, or the refusal where a number is outside its field
abbrev pub made : ℤ → ℤ → ℤ → ℤ → Result PackUnit UnitFault
made a b c d = cond ((outside a || outside b) || (outside c || outside d)) (Err field) (Ok (pack a b c d))
