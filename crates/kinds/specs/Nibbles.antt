-- Four bits as a number.
use Rattle.std.specs.Prelude.{ℕ, ◌+◌, ◌*◌, ◌%◌, Bool, true, false, cond, Ok, Err, Result, nat_le, nat_lt}
use Rattle.faults.specs.declared.units.UnitFault.{UnitFault}
use Rattle.faults.specs.Units.{field as field_fault}
use Rattle.kinds.specs.declared.nibble.Nibble.{Nibble}

abbrev pub bit : Bool → ℕ
bit true = 1
bit false = 0

abbrev pub value : Nibble → ℕ
value n = 8 * bit n.b3 + 4 * bit n.b2 + 2 * bit n.b1 + bit n.b0

-- the low four bits of a number
abbrev pub low : ℕ → Nibble
low n = record { b3 = nat_le 8 (n % 16); b2 = nat_le 4 (n % 8); b1 = nat_le 2 (n % 4); b0 = nat_le 1 (n % 2) }

-- the four bits of a bare number
abbrev pub made : ℕ → Result Nibble UnitFault
made k = cond (nat_lt 15 k) (Err field_fault) (Ok (low k))
