-- Two packets of a stream at 48 kHz with two AM824 units a block, captured as a reel of 96 bytes: seven silent blocks
-- in cycle 1, and none in cycle 3.
use Rattle.std.specs.Prelude.{◌≡◌, ℕ, List, [], ◌∷◌, ◌++◌, take, replicate, Some}
use Rattle.std.proofs.Common.{lit≤}
use Rattle.std.specs.List.{flat_map}
use Rattle.packets.specs.Headers.{header_bytes}
use Rattle.reels.specs.declared.plan.ReelPlan.{ReelPlan}
use Rattle.reels.specs.declared.plan.ReelPlan.TheVariants.{Am824}
use Rattle.reels.specs.declared.reel.ClosedReel.{ClosedReel}
use Rattle.reels.specs.declared.reel.OpenReel.{OpenReel}
use Rattle.reels.specs.Captures.{Planned, Capture}
use Rattle.reels.specs.Records.{Record, record_bytes}
use Rattle.reels.specs.Trailers.{trailer_bytes}
use Rattle.reels.specs.Writing.{view, written, Closed}
use Rattle.records.specs.Laws.{Found}

abbrev pub plan : ReelPlan
plan = Am824 (record { kind = record {}; sfc = 2; dimension = 2; rated = lit≤ tt; some = lit≤ tt; fits = lit≤ tt })

abbrev pub silent : List ℕ
silent = flat_map (λ (n : ℕ). 0x40 ∷ n ∷ n ∷ n ∷ []) (replicate 14 0)

abbrev pub first : Record
first = record { cycle = 1; packet = header_bytes 1 2 0 2 0x2a00 ++ silent }

abbrev pub second : Record
second = record { cycle = 3; packet = header_bytes 1 2 10 2 0xffff }

-- 96 bytes of the caller's, with one record, and with both
abbrev pub room : List ℕ
room = replicate 96 0

abbrev pub with_one : List ℕ
with_one = written room 0 (record_bytes first)

abbrev pub with_both : List ℕ
with_both = written with_one 70 (record_bytes second)

-- the reel before it is closed, and after
abbrev pub open_reel : OpenReel
open_reel = record { trailer = record { last = Some 70; count = 2; event = 0; sfc = 2; dimension = 2 }; used = 84; room = lit≤ tt; sized = lit≤ tt }

abbrev pub closed_reel : ClosedReel
closed_reel = record { length = 96; count = 2 }

abbrev pub all : List ℕ
all = written with_both 84 (trailer_bytes open_reel.trailer)

-- the calls are those of a capture, so that the law of captures applies, and the reel has these bytes
pub record TwoPacketsCaptured : Type 0 where
  pub planned : Planned plan
  pub capture : Capture plan (view open_reel) with_both (first ∷ second ∷ [])
  pub closed : Closed open_reel with_both all closed_reel
  pub found : Found plan (first ∷ second ∷ []) (take 96 all)
  pub bytes : take 96 all ≡
      0 ∷ 0 ∷ 0 ∷ 1 ∷ 0 ∷ 64 ∷ (header_bytes 1 2 0 2 0x2a00 ++ (silent
      ++ (0 ∷ 0 ∷ 0 ∷ 3 ∷ 0 ∷ 8 ∷ (header_bytes 1 2 10 2 0xffff
      ++ (0 ∷ 0 ∷ 0 ∷ 70 ∷ 0 ∷ 0 ∷ 0 ∷ 2 ∷ 0 ∷ 2 ∷ 0 ∷ 2 ∷ [])))))
