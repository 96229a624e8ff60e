-- Records heard in order by one listener, into one list.
use Rattle.std.specs.Prelude.{◌*◌, List, [], ◌∷◌, length, Ok, Err, fold, Option, Result}
use Rattle.faults.specs.declared.packets.PacketFault.{PacketFault}
use Rattle.faults.specs.declared.records.RecordFault.{RecordFault}
use Rattle.faults.specs.declared.records.RecordPosition.{RecordPosition}
use Rattle.faults.specs.Outcomes.{answered, changed}
use Rattle.listeners.specs.declared.heard.Heard.{Heard}
use Rattle.listeners.specs.Hearing.{State, count, units, brought, next_state, hear_refusal}
use Rattle.listeners.specs.Views.{fresh}
use Rattle.plans.specs.Streams.{Stream}
use Rattle.records.specs.Reading.{Placed}
use Rattle.reels.specs.Records.{Record}
use Rattle.units.specs.Rows.{over}

-- the listener's numbers and the caller's list, between two hearings
pub record Standing (U : Type 0) : Type 0 where
  pub state : State
  pub list : List U

-- a new listener
abbrev pub begun : {U : Type 0} → List U → Standing U
begun list = record { state = fresh; list = list }

-- an answer, its fault told with the record's position
abbrev pub of_record : RecordPosition → Result Heard PacketFault → Result Heard RecordFault
of_record p (Ok h) = Ok h
of_record p (Err f) = Err (record { position = p; fault = f })

module _ {U : Type 0} (s : Stream U) where
  abbrev pub refusal : Standing U → Record → Option PacketFault
  refusal t r = hear_refusal s r.cycle r.packet t.state (length t.list)

  -- what the hearing of a record answers and leaves
  abbrev pub answer : Standing U → Record → Result Heard PacketFault
  answer t r = answered (refusal t r) (brought s r.cycle r.packet t.state)

  abbrev pub after : Standing U → Record → Standing U
  after t r = record {
    state = changed (refusal t r) t.state (next_state s r.cycle r.packet t.state);
    list = changed (refusal t r) t.list (over (s.dimension * count s r.packet) (units s r.packet) t.list);
  }

  -- the answers to records at their positions, each heard where the one before left off
  abbrev pub answers : Standing U → Placed → List (Result Heard RecordFault)
  answers t [] = []
  answers t (x ∷ xs) = of_record x.0 (answer t x.1) ∷ answers (after t x.1) xs

  -- what their hearings leave
  abbrev pub after_all : Standing U → Placed → Standing U
  after_all t xs = fold (λ t x. after t x.1) t xs
