-- What reading a unit from the front of some bytes answers, and what writing one there leaves.
use Rattle.std.specs.Prelude.{ℕ, ◌<◌, cond, List, [], ◌∷◌, ◌++◌, length, take, drop, Ok, Err, Result, nat_lt}
use Rattle.faults.specs.declared.units.UnitFault.{UnitFault}
use Rattle.faults.specs.Units.{cut, room}

-- every number of the list is a byte
abbrev pub Bytes : List ℕ → Type 0
Bytes [] = Unit {0}
Bytes (b ∷ bs) = (b < 256) × Bytes bs

-- a unit of n bytes read from the front, where so many stand
abbrev pub read_front : {U : Type 0} → ℕ → (List ℕ → Result U UnitFault) → List ℕ → Result U UnitFault
read_front n heard bs = cond (nat_lt (length bs) n) (Err cut) (heard (take n bs))

-- n bytes are laid where there is room for them
abbrev pub laid_answer : ℕ → List ℕ → Result (Unit {0}) UnitFault
laid_answer n out = cond (nat_lt (length out) n) (Err room) (Ok tt)

-- what that leaves: the bytes at the front and the rest as it was, or all as it was
abbrev pub laid : ℕ → List ℕ → List ℕ → List ℕ
laid n bytes out = cond (nat_lt (length out) n) out (bytes ++ drop n out)
