-- 24 bits as a number, as a signed number and as three bytes.
use Rattle.std.specs.Prelude.{ℕ, ◌+◌, ◌-◌, ◌*◌, ◌/◌, ◌%◌, Bool, cond, ◌||◌, List, [], ◌∷◌, ℤ, pos, negsuc, ◌-ℤ◌, Ok, Err, Result, int_lt, nat_le, nat_lt}
use Rattle.faults.specs.declared.units.UnitFault.{UnitFault}
use Rattle.faults.specs.Units.{field as field_fault}
use Rattle.kinds.specs.declared.bits24.Bits24.{Bits24}

abbrev pub field : Bits24 → ℕ
field b = 65536 * b.high + b.low

abbrev pub from_field : ℕ → Bits24
from_field n = record { high = n / 65536; low = n % 65536 }

-- the bits of a bare number
abbrev pub made : ℕ → Result Bits24 UnitFault
made n = cond (nat_le 16777216 n) (Err field_fault) (Ok (from_field n))

-- the number of which the bits are the two's complement
abbrev pub number : Bits24 → ℤ
number b = cond (nat_lt (field b) 8388608) (pos (field b)) (pos (field b) -ℤ pos 16777216)

-- the field of a signed number: below zero, 16,777,216 more
abbrev pub twos : ℤ → ℕ
twos (pos n) = n
twos (negsuc n) = 16777215 - n

-- the two's complement of a signed number
abbrev pub signed : ℤ → Bits24
signed n = from_field (twos n)

-- the low 24 bits of a number's two's complement
abbrev pub low_bits : ℤ → Bits24
low_bits (pos n) = from_field (n % 16777216)
low_bits (negsuc n) = from_field (16777215 - n % 16777216)

-- below -8,388,608 or above 8,388,607
abbrev pub outside : ℤ → Bool
outside n = int_lt n (negsuc 8388607) || int_lt (pos 8388607) n

-- the bits of a bare signed number
abbrev pub made_signed : ℤ → Result Bits24 UnitFault
made_signed n = cond (outside n) (Err field_fault) (Ok (signed n))

abbrev pub bytes : Bits24 → List ℕ
bytes b = b.high ∷ b.low / 256 ∷ b.low % 256 ∷ []

abbrev pub from_bytes : ℕ → ℕ → ℕ → Bits24
from_bytes high middle low = record { high = high; low = 256 * middle + low }

-- the three bytes of a number below 2^24
abbrev pub field_bytes : ℕ → List ℕ
field_bytes n = n / 65536 ∷ n / 256 % 256 ∷ n % 256 ∷ []
