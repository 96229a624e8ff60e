-- A single raw sample: a length code and a number that counts the whole 24-bit field.
use Rattle.std.specs.Prelude.{ℕ, ◌+◌, ◌*◌, ◌/◌, ◌%◌, Bool, cond, ◌||◌, List, ◌∷◌, ℤ, Some, None, Option, ◌==◌, nat_lt}
use Rattle.kinds.specs.Bits.{number, twos, outside, from_field, field_bytes}
use Rattle.kinds.specs.Nibbles.{value, low}
use Rattle.quadlets.specs.declared.unit.Am824Unit.{Am824Unit}
use Rattle.quadlets.specs.declared.unit.Am824Unit.TheVariants.{Subframe, Raw24, Raw20, Raw16, Midi0, Midi1, Midi2, Midi3}

-- how many values the padding bits have: none, 4 or 8 bits for the codes 0, 1 and 2
abbrev pub paddings : ℕ → ℕ
paddings code = cond (code == 0) 1 (cond (code == 1) 16 256)

-- no sample has this length code, this number or, for its length, these padding bits
abbrev pub no_sample : ℕ → ℤ → Bool
no_sample code n = outside n || (nat_lt 2 code || nat_lt 0 (twos n % paddings code))

-- the unit of a field, which holds the bits above the padding
abbrev pub raw_field : ℕ → ℕ → Am824Unit
raw_field code n =
    cond (code == 0) (Raw24 (from_field n))
    (cond (code == 1) (Raw20 (n / 256) (low (n / 16)))
    (Raw16 (n / 256)))

-- the unit of a sample
abbrev pub raw_unit : ℕ → ℤ → Am824Unit
raw_unit code n = raw_field code (twos n)

-- the bytes of a sample
abbrev pub raw_bytes : ℕ → ℤ → List ℕ
raw_bytes code n = (0x40 + code) ∷ field_bytes (twos n)

-- the length code and the number of a unit that is a raw sample
abbrev pub raw_of : Am824Unit → Option (ℕ × ℤ)
raw_of (Subframe m n d) = None
raw_of (Raw24 d) = Some (0, number d)
raw_of (Raw20 w n) = Some (1, number (from_field (256 * w + 16 * value n)))
raw_of (Raw16 w) = Some (2, number (from_field (256 * w)))
raw_of Midi0 = None
raw_of (Midi1 x) = None
raw_of (Midi2 x y) = None
raw_of (Midi3 x y z) = None
