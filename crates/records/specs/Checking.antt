-- What the check of a reel answers.
use Rattle.std.specs.Prelude.{◌≡◌, ℕ, ◌+◌, ◌-◌, Bool, cond, not, ◌||◌, eqb, List, length, take, drop, Some, None, Option, Result, ◌==◌, nat_lt}
use Rattle.std.specs.Option.{option_eq, option_or}
use Rattle.faults.specs.Outcomes.{answered}
use Rattle.plans.specs.declared.fault.PlanFault.{PlanFault}
use Rattle.plans.specs.declared.fault.PlanFault.TheVariants.{Rate, Dimension}
use Rattle.plans.specs.Planning.{plan_refusal}
use Rattle.reels.specs.declared.plan.ReelPlan.{ReelPlan}
use Rattle.reels.specs.declared.plan.ReelPlan.TheVariants.{Am824, Pack}
use Rattle.reels.specs.Records.{Record, extent, last_place, rising}
use Rattle.reels.specs.declared.trailer.Trailer.{Trailer}
use Rattle.reels.specs.Trailers.{read_trailer}
use Rattle.records.specs.declared.checked.Checked.{Checked}
use Rattle.records.specs.declared.fault.ReelCause.{ReelCause}
use Rattle.records.specs.declared.fault.ReelCause.TheVariants.{Length, Event, Plan as PlanCase, Record as RecordCase, Trailer as TrailerCase}
use Rattle.records.specs.declared.fault.ReelFault.{ReelFault}
use Rattle.records.specs.Reading.{records}

abbrev pub fault : ReelCause → ℕ → Option ReelFault
fault cause place = Some (record { cause = cause; place = place })

-- the quadlets of a unit of an event type
abbrev pub size_of_event : ℕ → ℕ
size_of_event event = cond (event == 0) 1 3

-- by the place at which a trailer stands
module _ (place : ℕ) where
  -- a stream that the trailer names and that is not planned
  abbrev pub plan_fault : Option PlanFault → Option ReelFault
  plan_fault (Some Rate) = fault (PlanCase Rate) (place + 9)
  plan_fault (Some Dimension) = fault (PlanCase Dimension) (place + 10)
  plan_fault None = None

  module _ (t : Trailer) where
    -- the stream is of no kind, or is not planned
    abbrev pub stream_refusal : Option ReelFault
    stream_refusal =
        cond (nat_lt 1 t.event) (fault Event (place + 8))
        (plan_fault (plan_refusal (size_of_event t.event) t.sfc t.dimension))

    -- the records end before the trailer, or are not those that it tells
    abbrev pub told_refusal : List Record → Option ReelFault
    told_refusal rs =
        cond (nat_lt (extent rs) place) (fault RecordCase (extent rs))
        (cond (not (option_eq eqb t.last (last_place rs)) || not (t.count == length rs)) (fault TrailerCase place)
        None)

module _ (bs : List ℕ) where
  -- the trailer: the last twelve bytes
  abbrev pub trailer_place : ℕ
  trailer_place = length bs - 12

  abbrev pub trailer : Trailer
  trailer = read_trailer (drop trailer_place bs)

  -- the records: what stands whole before the trailer
  abbrev pub reel_records : List Record
  reel_records = records (take trailer_place bs)

  abbrev pub bad_length : Bool
  bad_length = nat_lt (length bs) 12 || nat_lt 65536 (length bs)

  abbrev pub trailer_refusal : Option ReelFault
  trailer_refusal = cond bad_length (fault Length 0) (stream_refusal trailer_place trailer)

  abbrev pub records_refusal : Option ReelFault
  records_refusal = told_refusal trailer_place trailer reel_records

  abbrev pub check_refusal : Option ReelFault
  check_refusal = option_or trailer_refusal records_refusal

  abbrev pub checked : Result Checked ReelFault
  checked = answered check_refusal (record { count = length reel_records; rising = rising reel_records })

-- the plan of the stream that a trailer names
abbrev pub Names : Trailer → ReelPlan → Type 0
Names t (Am824 p) = (t.event ≡ 0) × (p.sfc ≡ t.sfc) × (p.dimension ≡ t.dimension)
Names t (Pack p) = (t.event ≡ 1) × (p.sfc ≡ t.sfc) × (p.dimension ≡ t.dimension)
