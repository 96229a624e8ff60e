-- The trailer of a reel, and the reel of some records.
use Rattle.std.specs.Prelude.{ℕ, cond, List, ◌∷◌, ◌++◌, length, Some, None, Option, ◌==◌}
use Rattle.std.specs.List.{flat_map}
use Rattle.reels.specs.Bytes.{bytes2, bytes4, byte, two, four}
use Rattle.reels.specs.declared.trailer.Trailer.{Trailer}
use Rattle.reels.specs.Records.{Record, record_bytes, last_place}

-- the place of the last record as its four bytes tell it: FFFFFFFFh where there is none
abbrev pub place_told : Option ℕ → ℕ
place_told None = 0xffffffff
place_told (Some at) = at

abbrev pub place_read : ℕ → Option ℕ
place_read told = cond (told == 0xffffffff) None (Some told)

unfoldable pub trailer_bytes : Trailer → List ℕ
trailer_bytes t = bytes4 (place_told t.last) ++ (bytes4 t.count ++ (t.event ∷ t.sfc ∷ bytes2 t.dimension))

-- what twelve bytes say
abbrev pub read_trailer : List ℕ → Trailer
read_trailer bs = record { last = place_read (four bs 0); count = four bs 4; event = byte bs 8; sfc = byte bs 9; dimension = two bs 10 }

-- the trailer for some records of a stream
abbrev pub trailer_of : ℕ → ℕ → ℕ → List Record → Trailer
trailer_of event sfc dimension rs = record { last = last_place rs; count = length rs; event = event; sfc = sfc; dimension = dimension }

-- a reel: its records one after another, and the trailer
abbrev pub reel_bytes : ℕ → ℕ → ℕ → List Record → List ℕ
reel_bytes event sfc dimension rs = flat_map record_bytes rs ++ trailer_bytes (trailer_of event sfc dimension rs)
