-- The records that stand in some bytes.
use Rattle.std.specs.Prelude.{ℕ, zero, suc, ◌+◌, Bool, cond, List, [], ◌∷◌, length, take, drop, nat_le}
use Rattle.faults.specs.declared.records.RecordPosition.{RecordPosition}
use Rattle.reels.specs.Bytes.{two, four}
use Rattle.reels.specs.Records.{Record, size_of}

-- how many bytes the record at the front says that it has, and whether they are there
abbrev pub front_size : List ℕ → ℕ
front_size bs = 6 + two bs 4

abbrev pub whole : List ℕ → Bool
whole bs = nat_le (front_size bs) (length bs)

abbrev pub front : List ℕ → Record
front bs = record { cycle = four bs 0; packet = take (two bs 4) (drop 6 bs) }

-- the whole records from the front on, at most n of them
unfoldable pub up_to : ℕ → List ℕ → List Record
up_to zero bs = []
up_to (suc n) bs = cond (whole bs) (front bs ∷ up_to n (drop (front_size bs) bs)) []

-- all of them: there are fewer than bytes
abbrev pub records : List ℕ → List Record
records bs = up_to (length bs) bs

-- where the first record stands, and where the next one does
abbrev pub origin : RecordPosition
origin = record { number = 0; place = 0 }

abbrev pub behind : RecordPosition → Record → RecordPosition
behind p r = record { number = p.number + 1; place = p.place + size_of r }

-- records with their positions, the first at p
abbrev pub Placed : Type 0
Placed = List (RecordPosition × Record)

abbrev pub placed : RecordPosition → List Record → Placed
placed p [] = []
placed p (r ∷ rs) = (p, r) ∷ placed (behind p r) rs
