-- What opening, appending and closing answer and leave, for every cycle, packet and bytes.
use Rattle.std.specs.Prelude.{◌≡◌, ℕ, ◌+◌, List, length, Some, None, Result}
use Rattle.std.proofs.Math.Seq.{paste}
use Rattle.faults.specs.Outcomes.{answered, changed}
use Rattle.reels.specs.declared.full.ReelFull.{ReelFull}
use Rattle.reels.specs.declared.plan.ReelPlan.{ReelPlan}
use Rattle.reels.specs.declared.reel.ClosedReel.{ClosedReel}
use Rattle.reels.specs.declared.reel.NotClosed.{NotClosed}
use Rattle.reels.specs.declared.reel.OpenReel.{OpenReel}
use Rattle.reels.specs.Full.{full_refusal}
use Rattle.reels.specs.Plans.{event_of, sfc_of, dimension_of}
use Rattle.reels.specs.Records.{Record, record_bytes, size_of}
use Rattle.reels.specs.declared.trailer.Trailer.{Trailer}
use Rattle.reels.specs.Trailers.{trailer_bytes}

-- an open reel as contracts speak of it: the trailer that it would get now, and the bytes that its records take
pub record Open : Type 0 where
  pub trailer : Trailer
  pub used : ℕ

abbrev pub view : OpenReel → Open
view o = record { trailer = o.trailer; used = o.used }

abbrev pub opened : ReelPlan → Open
opened p = record { trailer = record { last = None; count = 0; event = event_of p; sfc = sfc_of p; dimension = dimension_of p }; used = 0 }

-- the reel with one record more
abbrev pub grown : Open → Record → Open
grown o r = record {
  trailer = record { last = Some o.used; count = o.trailer.count + 1; event = o.trailer.event; sfc = o.trailer.sfc; dimension = o.trailer.dimension };
  used = o.used + size_of r;
}

-- bytes written over others from a place on
abbrev pub written : List ℕ → ℕ → List ℕ → List ℕ
written bytes at part = paste bytes at part (length part)

-- what an append answers, the bytes that it leaves, and the reel that it leaves
pub record Appends (o : Open) (r : Record) (bytes : List ℕ) (a : Result (Unit {0}) ReelFull) (bytes' : List ℕ) (o' : Open) : Type 0 where
  pub answer : a ≡ answered (full_refusal (o.used + size_of r) (length bytes)) tt
  pub left : bytes' ≡ changed (full_refusal (o.used + size_of r) (length bytes)) bytes (written bytes o.used (record_bytes r))
  pub reel : o' ≡ changed (full_refusal (o.used + size_of r) (length bytes)) o (grown o r)

-- what a closing answers and leaves: the closed reel, or the open one as it was
pub record Closed (o : OpenReel) (bytes bytes' : List ℕ) (c : ClosedReel) : Type 0 where
  pub fits : full_refusal o.used (length bytes) ≡ None
  pub left : bytes' ≡ written bytes o.used (trailer_bytes o.trailer)
  pub length : c.length ≡ o.used + 12
  pub count : c.count ≡ o.trailer.count

pub record HandedBack (o : OpenReel) (bytes bytes' : List ℕ) (n : NotClosed) : Type 0 where
  pub full : full_refusal o.used (length bytes) ≡ Some n.fault
  pub left : bytes' ≡ bytes
  pub reel : n.reel ≡ o
