-- The eight bytes at the front of a packet.
use Rattle.std.specs.Prelude.{ℕ, ◌/◌, ◌%◌, List, [], ◌∷◌}

-- SID, DBS, 0, DBC, then the format byte, FDF and SYT
abbrev pub header_bytes : ℕ → ℕ → ℕ → ℕ → ℕ → List ℕ
header_bytes sid dbs dbc fdf syt = sid ∷ dbs ∷ 0 ∷ dbc ∷ 0x90 ∷ fdf ∷ syt / 256 ∷ syt % 256 ∷ []
