-- The records of a reel, and their bytes.
use Rattle.std.specs.Prelude.{ℕ, ◌+◌, ◌<◌, Bool, true, not, ◌&&◌, List, [], ◌∷◌, ◌++◌, length, take, Some, None, sum_by, Option}
use Rattle.clock.specs.Cycles.{not_later}
use Rattle.reels.specs.Bytes.{bytes2, bytes4}

-- a packet and the cycle in which it was heard
pub record Record : Type 0 where
  pub cycle : ℕ
  pub packet : List ℕ

-- the cycle, the packet's length, the packet
abbrev pub record_bytes : Record → List ℕ
record_bytes r = (bytes4 r.cycle ++ bytes2 (length r.packet)) ++ r.packet

-- the cycle and the length have room in their fields
pub record Fits (r : Record) : Type 0 where
  pub cycle : r.cycle < 4294967296
  pub length : length r.packet < 65536

-- how many bytes a record takes, and how many some records take
abbrev pub size_of : Record → ℕ
size_of r = 6 + length r.packet

abbrev pub extent : List Record → ℕ
extent rs = sum_by size_of rs

-- the place of the last record, if there is one: that many bytes are before it
abbrev pub last_place : List Record → Option ℕ
last_place [] = None
last_place (r ∷ rs) = Some (extent (take (length rs) (r ∷ rs)))

-- each cycle exceeds the one before
abbrev pub rises_after : Option ℕ → List Record → Bool
rises_after last [] = true
rises_after last (r ∷ rs) = not (not_later r.cycle last) && rises_after (Some r.cycle) rs

abbrev pub rising : List Record → Bool
rising rs = rises_after None rs
