-- Four bits and their number determine each other.
use Rattle.std.proofs.Common.{◌≡◌, ℕ, ◌+◌, ◌*◌, ◌%◌, ◌≤◌, Bool, true, false, arith, rules}
use Rattle.kinds.specs.declared.nibble.Nibble.{Nibble}
use Rattle.kinds.specs.Nibbles.{bit, value, low}

bit_most : (b : Bool) → bit b ≤ 1
bit_most true = omega arith
bit_most false = omega arith

pub value_most : (n : Nibble) → value n ≤ 15
value_most n = omega (arith, bit_most n.b3, bit_most n.b2, bit_most n.b1, bit_most n.b0)

pub value_low : (k : ℕ) → value (low k) ≡ k % 16
value_low k = search rules

pub low_value : (m : ℕ) (n : Nibble) → low (16 * m + value n) ≡ n
low_value m n = search rules
