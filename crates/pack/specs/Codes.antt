-- The twelve bytes of a pack: four samples, the high byte of each first.
use Rattle.std.specs.Prelude.{ℕ, ◌+◌, List, ◌++◌, Ok, Result, slice_index}
use Rattle.faults.specs.declared.units.UnitFault.{UnitFault}
use Rattle.kinds.specs.declared.bits24.Bits24.{Bits24}
use Rattle.kinds.specs.Bits.{bytes, from_bytes}
use Rattle.pack.specs.declared.unit.PackUnit.{PackUnit}

abbrev pub code : PackUnit → List ℕ
code u = bytes u.first ++ bytes u.second ++ bytes u.third ++ bytes u.fourth

abbrev pub sample_at : List ℕ → ℕ → Bits24
sample_at bs at = from_bytes (slice_index bs at) (slice_index bs (at + 1)) (slice_index bs (at + 2))

-- every twelve bytes are a pack
abbrev pub heard : List ℕ → Result PackUnit UnitFault
heard bs = Ok (record { first = sample_at bs 0; second = sample_at bs 3; third = sample_at bs 6; fourth = sample_at bs 9 })
