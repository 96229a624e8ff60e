-- What grading a reel answers, and the lists that it leaves.
use Rattle.std.specs.Prelude.{◌≡◌, ℕ, Bool, cond, List, Result, ◌==◌}
use Rattle.am824.specs.Codes.{code as am824_code}
use Rattle.am824.specs.Reading.{heard as am824_heard}
use Rattle.faults.specs.Outcomes.{answered, changed}
use Rattle.pack.specs.Codes.{code as pack_code, heard as pack_heard}
use Rattle.pack.specs.declared.unit.PackUnit.{PackUnit}
use Rattle.plans.specs.Streams.{Stream, every}
use Rattle.quadlets.specs.declared.unit.Am824Unit.{Am824Unit}
use Rattle.records.specs.declared.fault.ReelFault.{ReelFault}
use Rattle.records.specs.Checking.{trailer, reel_records, check_refusal}
use Rattle.records.specs.Reading.{Placed, origin, placed}
use Rattle.reels.specs.declared.trailer.Trailer.{Trailer}
use Rattle.reports.specs.declared.report.Report.{Report}
use Rattle.grading.specs.Hearings.{begun, answers, after_all}
use Rattle.grading.specs.Tallies.{report_of}

-- records heard by a new listener on a stream: the report, and the list left
abbrev pub report : {U : Type 0} → Stream U → List U → Placed → Report
report s list xs = report_of (every s) (answers s (begun list) xs)

abbrev pub left : {U : Type 0} → Stream U → List U → Placed → List U
left s list xs = (after_all s (begun list) xs).list

-- the stream that a trailer names, of either kind
abbrev pub am824_stream : Trailer → Stream Am824Unit
am824_stream t = record { size = 1; code = am824_code; heard = am824_heard; sfc = t.sfc; dimension = t.dimension; event = 0 }

abbrev pub pack_stream : Trailer → Stream PackUnit
pack_stream t = record { size = 3; code = pack_code; heard = pack_heard; sfc = t.sfc; dimension = t.dimension; event = 1 }

-- the records of a reel are heard by its stream, into the list of its kind; the other list stays
module _ (reel : List ℕ) where
  abbrev pub of_am824 : Bool
  of_am824 = (trailer reel).event == 0

  abbrev pub reel_placed : Placed
  reel_placed = placed origin (reel_records reel)

  abbrev pub figures : List Am824Unit → List PackUnit → Report
  figures quadlets packs = cond of_am824 (report (am824_stream (trailer reel)) quadlets reel_placed) (report (pack_stream (trailer reel)) packs reel_placed)

  abbrev pub quadlets_left : List Am824Unit → List Am824Unit
  quadlets_left quadlets = cond of_am824 (left (am824_stream (trailer reel)) quadlets reel_placed) quadlets

  abbrev pub packs_left : List PackUnit → List PackUnit
  packs_left packs = cond of_am824 packs (left (pack_stream (trailer reel)) packs reel_placed)

  -- what grading answers, and what it leaves in either list: a refused reel leaves both
  pub record Grades (quadlets : List Am824Unit) (packs : List PackUnit) (r : Result Report ReelFault) (quadlets' : List Am824Unit) (packs' : List PackUnit) : Type 0 where
    pub answer : r ≡ answered (check_refusal reel) (figures quadlets packs)
    pub left_quadlets : quadlets' ≡ changed (check_refusal reel) quadlets (quadlets_left quadlets)
    pub left_packs : packs' ≡ changed (check_refusal reel) packs (packs_left packs)
