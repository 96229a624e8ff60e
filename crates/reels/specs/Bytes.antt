-- Numbers of one, two and four bytes, the high byte first.
use Rattle.std.specs.Prelude.{ℕ, ◌+◌, ◌*◌, ◌/◌, ◌%◌, List, [], ◌∷◌, slice_index}

abbrev pub bytes2 : ℕ → List ℕ
bytes2 x = x / 256 % 256 ∷ x % 256 ∷ []

abbrev pub bytes4 : ℕ → List ℕ
bytes4 x = x / 16777216 % 256 ∷ x / 65536 % 256 ∷ x / 256 % 256 ∷ x % 256 ∷ []

-- the numbers that bytes at a place make
abbrev pub byte : List ℕ → ℕ → ℕ
byte bs k = slice_index bs k

abbrev pub two : List ℕ → ℕ → ℕ
two bs k = 256 * byte bs k + byte bs (k + 1)

abbrev pub four : List ℕ → ℕ → ℕ
four bs k = 65536 * two bs k + two bs (k + 2)
