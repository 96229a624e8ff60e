-- What a relay answers and leaves: steps of a run, by the talker and then by the first listener.
use Rattle.std.specs.Prelude.{◌≡◌, ℕ, List, take, Ok, Err, Result}
use Rattle.faults.specs.declared.packets.PacketFault.{PacketFault}
use Rattle.kinds.specs.declared.kind.Kind.{Ghosts}
use Rattle.plans.specs.Streams.{Stream}
use Rattle.talkers.specs.declared.fault.SendFault.{SendFault}
use Rattle.talkers.specs.Sending.{Desk, Score}
use Rattle.talkers.specs.Views.{SameDesk}
use Rattle.listeners.specs.declared.heard.Heard.{Heard}
use Rattle.streams.specs.declared.relayed.Relayed.{Relayed}
use Rattle.streams.specs.declared.trio.Trio.{Trio}
use Rattle.streams.specs.Runs.{Three, Call, sends, send_refused, hears, hear_refused, first, Step}

-- the desk of a talker whose stream is the one that the first listener hears; where both are on one plan it is the talker's own
abbrev pub tuned : {U : Type 0} → Desk U → Stream U → Desk U
tuned d s = record { stream = s; takes = d.takes; sid = d.sid; delay = d.delay }

-- the first listener's call, by what it answered; the number that it gives the packet changes no step
abbrev pub heard_as : {U : Type 0} → ℕ → List U → List U → ℕ → List ℕ → Result Heard PacketFault → Call U
heard_as cycle list list' which packet (Ok heard) = hears first which cycle packet list heard list'
heard_as cycle list list' which packet (Err fault) = hear_refused first cycle packet list fault list'

module _ {U : Type 0} (d : Desk U) (p : Stream U) (s : Score U) (cycle : ℕ) (bytes bytes' : List ℕ) (list list' : List U) (v w : Three) where
  -- a refused send is the only step
  pub record NotSent (fault : SendFault) : Type 0 where
    pub sending : Step d v (send_refused s cycle bytes fault bytes') w
    pub list_left : list' ≡ list

  -- an accepted send, and then the hearing of its packet
  pub record SentOn (a : Relayed) : Type 0 where
    pub between : Three
    pub sending : Step d v (sends s cycle bytes a.sent.blocks a.sent.length bytes') between
    pub hearing : (which : ℕ) → Step (tuned d p) between (heard_as cycle list list' which (take a.sent.length bytes') a.heard) w

  abbrev pub Relays : Result Relayed SendFault → Type 0
  Relays (Ok a) = SentOn a
  Relays (Err fault) = NotSent fault

-- plans, method, SID and delay stay, and so does all of the second listener
pub record SameMakings {X M U : Type 0} {K : Ghosts X U} (t u : Trio X M U K) : Type 0 where
  pub talker : SameDesk t.talker u.talker
  pub first_plan : u.first.plan ≡ t.first.plan
  pub second : u.second ≡ t.second
