-- What was captured is what the check finds.
use Rattle.std.specs.Prelude.{◌≡◌, ℕ, List, length, take, Ok}
use Rattle.reels.specs.declared.plan.ReelPlan.{ReelPlan}
use Rattle.reels.specs.declared.reel.ClosedReel.{ClosedReel}
use Rattle.reels.specs.declared.reel.OpenReel.{OpenReel}
use Rattle.reels.specs.Captures.{Planned, Capture}
use Rattle.reels.specs.Plans.{event_of, sfc_of, dimension_of}
use Rattle.reels.specs.Records.{Record, rising}
use Rattle.reels.specs.Trailers.{trailer_of, reel_bytes}
use Rattle.reels.specs.Writing.{view, Closed}
use Rattle.records.specs.Checking.{checked, trailer, reel_records}

-- these bytes are the reel of some records of a planned stream, and the check finds both
pub record Found (p : ReelPlan) (rs : List Record) (reel : List ℕ) : Type 0 where
  pub bytes : reel ≡ reel_bytes (event_of p) (sfc_of p) (dimension_of p) rs
  pub answer : checked reel ≡ Ok (record { count = length rs; rising = rising rs })
  pub records : reel_records reel ≡ rs
  pub trailer : trailer reel ≡ trailer_of (event_of p) (sfc_of p) (dimension_of p) rs

-- whatever is appended between opening and closing
abbrev pub CapturedIsFound : Type 0
CapturedIsFound = (p : ReelPlan) (o : OpenReel) (c : ClosedReel) (bytes bytes' : List ℕ) (rs : List Record) →
    Planned p → Capture p (view o) bytes rs → Closed o bytes bytes' c → Found p rs (take c.length bytes')

-- a reel that is accepted is nothing but the bytes of its records and of its trailer
abbrev pub IsItsRecords : List ℕ → Type 0
IsItsRecords reel = reel ≡ reel_bytes (trailer reel).event (trailer reel).sfc (trailer reel).dimension (reel_records reel)
