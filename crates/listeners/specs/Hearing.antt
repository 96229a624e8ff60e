-- What a hearing answers and leaves, for every cycle, packet and list.
use Rattle.std.specs.Prelude.{◌≡◌, ℕ, ◌+◌, ◌*◌, ◌/◌, ◌%◌, cond, List, length, drop, Some, None, Ok, Err, Option, Result, nat_lt}
use Rattle.std.specs.Option.{option_map, option_or}
use Rattle.clock.specs.Counts.{gap_to}
use Rattle.clock.specs.Cycles.{not_later}
use Rattle.clock.specs.Ticks.{time_of}
use Rattle.faults.specs.declared.located.Located.{Located}
use Rattle.faults.specs.declared.packets.PacketFault.{PacketFault}
use Rattle.faults.specs.declared.packets.PacketFault.TheVariants.{Cycle, List as ListCase}
use Rattle.faults.specs.declared.packets.UnitPosition.{UnitPosition}
use Rattle.faults.specs.declared.units.UnitFault.{UnitFault}
use Rattle.faults.specs.Outcomes.{answered, changed}
use Rattle.faults.specs.Packets.{carried}
use Rattle.packets.specs.Sorting.{idle, blocks, dbc_of, stamp_of, refusal}
use Rattle.plans.specs.Streams.{Stream, unit_bytes}
use Rattle.units.specs.Rows.{row, over}
use Rattle.listeners.specs.declared.heard.Heard.{Heard}

-- what a listener keeps
pub record State : Type 0 where
  pub next : ℕ
  pub heard : ℕ
  pub missed : ℕ
  pub last : Option ℕ

-- where the unit at an index of a packet stands: its block, its index there, its first byte
abbrev pub position_of : ℕ → ℕ → ℕ → UnitPosition
position_of bytes dimension index = record { block = index / dimension; unit = index % dimension; offset = 8 + bytes * index }

-- the first refused unit of a row, whole, as the packet's fault
abbrev pub unit_refusal : {U : Type 0} → Stream U → Result (List U) (Located ℕ UnitFault) → Option PacketFault
unit_refusal s (Ok us) = None
unit_refusal s (Err at) = Some (carried (record { position = position_of (unit_bytes s) s.dimension at.position; fault = at.fault }))

-- why so many units are not read into a list of this length
abbrev pub list_refusal : {U : Type 0} → Stream U → ℕ → Result (List U) (Located ℕ UnitFault) → ℕ → Option PacketFault
list_refusal s n units room = cond (nat_lt room n) (Some ListCase) (unit_refusal s units)

-- the units of so many blocks of a packet; why they are not read into a list of this length, or the list with them at its front
abbrev pub units_of : {U : Type 0} → Stream U → ℕ → List ℕ → Result (List U) (Located ℕ UnitFault)
units_of s n packet = row (unit_bytes s) s.heard (s.dimension * n) (drop 8 packet)

abbrev pub read_refusal : {U : Type 0} → Stream U → ℕ → List ℕ → ℕ → Option PacketFault
read_refusal s n packet room = list_refusal s (s.dimension * n) (units_of s n packet) room

abbrev pub filled : {U : Type 0} → Stream U → ℕ → List ℕ → List U → List U
filled s n packet list = over (s.dimension * n) (units_of s n packet) list

-- they are read, to the front of the list
pub record Reads {U : Type 0} (s : Stream U) (n : ℕ) (packet : List ℕ) (list list' : List U) : Type 0 where
  pub accepted : read_refusal s n packet (length list) ≡ None
  pub left : list' ≡ filled s n packet list

-- the time of the stamped block, if there is a stamp
abbrev pub time : ℕ → List ℕ → Option ℕ
time c packet = cond (idle packet) None (option_map (time_of c) (stamp_of packet))

module _ {U : Type 0} (s : Stream U) (packet : List ℕ) where
  -- an idle packet counts no blocks
  abbrev pub count : ℕ
  count = cond (idle packet) 0 (blocks s packet)

  abbrev pub units : Result (List U) (Located ℕ UnitFault)
  units = units_of s count packet

module _ {U : Type 0} (s : Stream U) (c : ℕ) (packet : List ℕ) (t : State) where
  abbrev pub gap : ℕ
  gap = gap_to t.next (dbc_of packet)

  abbrev pub brought : Heard
  brought = record { gap = gap; first = t.next + gap; blocks = count s packet; time = time c packet }

  abbrev pub next_state : State
  next_state = record { next = t.next + gap + count s packet; heard = t.heard + count s packet; missed = t.missed + gap; last = Some c }

  -- why a packet is not weighed
  abbrev pub weigh_refusal : Option PacketFault
  weigh_refusal = cond (not_later c t.last) (Some Cycle) (refusal s packet)

  -- why it is not accepted for a list of so many units: the smallest number wins
  abbrev pub hear_refusal : ℕ → Option PacketFault
  hear_refusal room = option_or weigh_refusal (read_refusal s (count s packet) packet room)

  -- a packet that is weighed, and what it brings
  pub record Weighed (h : Heard) : Type 0 where
    pub accepted : weigh_refusal ≡ None
    pub as_brought : h ≡ brought

  -- what a hearing answers, the list that it leaves, and the state that it leaves
  pub record Hears (list : List U) (r : Result Heard PacketFault) (list' : List U) (t' : State) : Type 0 where
    pub answer : r ≡ answered (hear_refusal (length list)) brought
    pub left : list' ≡ changed (hear_refusal (length list)) list (filled s (count s packet) packet list)
    pub state : t' ≡ changed (hear_refusal (length list)) t next_state
