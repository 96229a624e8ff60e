-- Units made from bare numbers.
use Rattle.std.specs.Prelude.{◌≡◌, ℕ, ◌+◌, ◌*◌, Bool, true, false, ◌&&◌, ◌||◌, List, [], ◌∷◌, Ok, Err, Result, ◌==◌, nat_le, nat_lt}
use Rattle.faults.specs.declared.units.UnitFault.{UnitFault}
use Rattle.faults.specs.Units.{field}
use Rattle.kinds.specs.Bits.{field_bytes}
use Rattle.quadlets.specs.declared.unit.Am824Unit.{Am824Unit}
use Rattle.am824.specs.Codes.{code}

-- refused where there is no such unit, else the one unit that has these bytes
abbrev pub Made : Bool → List ℕ → Result Am824Unit UnitFault → Type 0
Made none bytes (Ok u) = (none ≡ false) × (code u ≡ bytes)
Made none bytes (Err f) = (none ≡ true) × (f ≡ field)

-- the upper half of a subframe's label is 0, 1 or 3, its lower half below 16, the bits below 2^24
abbrev pub no_subframe : ℕ → ℕ → ℕ → Bool
no_subframe upper lower bits = upper == 2 || (nat_lt 3 upper || (nat_lt 15 lower || nat_le 16777216 bits))

abbrev pub subframe_bytes : ℕ → ℕ → ℕ → List ℕ
subframe_bytes upper lower bits = (16 * upper + lower) ∷ field_bytes bits

-- a count is at most 3, and the bytes beyond it are zero
abbrev pub no_midi : ℕ → ℕ → ℕ → ℕ → Bool
no_midi count x y z = nat_lt 3 count || (nat_lt count 1 && nat_lt 0 x || (nat_lt count 2 && nat_lt 0 y || nat_lt count 3 && nat_lt 0 z))

abbrev pub midi_bytes : ℕ → ℕ → ℕ → ℕ → List ℕ
midi_bytes count x y z = (0x80 + count) ∷ x ∷ y ∷ z ∷ []
