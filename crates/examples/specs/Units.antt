-- What the worked units answer.
use Rattle.std.specs.Prelude.{◌≡◌, [], ◌∷◌, negsuc, Some, Ok, Err, Result}
use Rattle.faults.specs.declared.units.UnitFault.{UnitFault}
use Rattle.faults.specs.Refusals.{refused}
use Rattle.faults.specs.Units.{told}
use Rattle.quadlets.specs.declared.unit.Am824Unit.{Am824Unit}
use Rattle.samples.specs.Samples.{raw_of}
use Rattle.pack.specs.declared.unit.PackUnit.{PackUnit}
use Rattle.pack.specs.Codes.{code}

-- length code 1 is 20 bits, and -16 is written as 15 below -1
abbrev pub MinusSixteen : Result Am824Unit UnitFault → Type 0
MinusSixteen (Ok u) = raw_of u ≡ Some (1, negsuc 15)
MinusSixteen (Err f) = ⊥

abbrev pub PaddingRefused : Result Am824Unit UnitFault → Type 0
PaddingRefused (Ok u) = ⊥
PaddingRefused (Err f) = told f ≡ refused 15 1

abbrev pub MidiByteRefused : Result Am824Unit UnitFault → Type 0
MidiByteRefused (Ok u) = ⊥
MidiByteRefused (Err f) = told f ≡ refused 16 2

abbrev pub LabelRefused : Result Am824Unit UnitFault → Type 0
LabelRefused (Ok u) = ⊥
LabelRefused (Err f) = told f ≡ refused 14 0

abbrev pub FourPacked : Result PackUnit UnitFault → Type 0
FourPacked (Ok u) = code u ≡ 0x00 ∷ 0x00 ∷ 0x01 ∷ 0xff ∷ 0xff ∷ 0xff ∷ 0x80 ∷ 0x00 ∷ 0x00 ∷ 0x7f ∷ 0xff ∷ 0xff ∷ []
FourPacked (Err f) = ⊥
