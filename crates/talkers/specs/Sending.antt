-- What a send answers and leaves, for every score, cycle and bytes.
use Rattle.std.specs.Prelude.{◌≡◌, ℕ, ◌+◌, ◌*◌, ◌%◌, Bool, cond, not, ◌&&◌, ◌||◌, leb, List, ◌++◌, length, take, drop, Some, None, Option, Result, ◌==◌, nat_le, nat_lt, unwrap_or, slice_index}
use Rattle.std.specs.List.{flat_map, prefix_len}
use Rattle.clock.specs.Cycles.{not_later}
use Rattle.clock.specs.Ticks.{start, stamp}
use Rattle.faults.specs.Outcomes.{answered, changed}
use Rattle.packets.specs.Headers.{header_bytes}
use Rattle.plans.specs.Stamps.{stamped_index}
use Rattle.plans.specs.Streams.{Stream, every, dbs, fdf, block_bytes}
use Rattle.talkers.specs.declared.fault.SendFault.{SendFault}
use Rattle.talkers.specs.declared.fault.SendFault.TheVariants.{Score as ScoreCase, Cycle, Room}
use Rattle.talkers.specs.declared.sent.Sent.{Sent}

-- what a talker is made of
pub record Desk (U : Type 0) : Type 0 where
  pub stream : Stream U
  pub takes : ℕ → ℕ → ℕ
  pub sid : ℕ
  pub delay : ℕ

-- what a talker keeps: the place reached, and the last accepted cycle
pub record State : Type 0 where
  pub place : ℕ
  pub last : Option ℕ

pub record Score (U : Type 0) : Type 0 where
  pub arrivals : List ℕ
  pub units : List U

-- how many blocks have arrived by a tick, up to the first that has not
abbrev pub due : ℕ → List ℕ → ℕ
due by arrivals = prefix_len (λ a. leb a by) arrivals

-- the time at which a block is to be heard
abbrev pub presented : ℕ → List ℕ → ℕ → ℕ
presented delay arrivals n = slice_index arrivals n + delay

-- the stamp of a packet of so many blocks from a place on: none without a stamped block, or with one that is late
abbrev pub stamp_for : ℕ → ℕ → List ℕ → ℕ → ℕ → ℕ → Option ℕ
stamp_for interval delay arrivals place blocks c =
    cond (nat_lt (stamped_index interval place) blocks && nat_le (start c) (presented delay arrivals (place + stamped_index interval place)))
    (Some (stamp (presented delay arrivals (place + stamped_index interval place)))) None

-- SYT: the stamp, or FFFFh for none
abbrev pub syt_for : ℕ → ℕ → List ℕ → ℕ → ℕ → ℕ → ℕ
syt_for interval delay arrivals place blocks c = unwrap_or (stamp_for interval delay arrivals place blocks c) 0xffff

module _ {U : Type 0} (d : Desk U) (s : Score U) (t : State) where
  -- too many blocks, other units than the blocks want, or fewer blocks than were sent
  abbrev pub bad_score : Bool
  bad_score = nat_lt 65536 (length s.arrivals) || (not (length s.units == d.stream.dimension * length s.arrivals) || nat_lt (length s.arrivals) t.place)

module _ {U : Type 0} (d : Desk U) (s : Score U) (t : State) (c : ℕ) where
  -- the blocks that the method takes of the due ones
  abbrev pub blocks : ℕ
  blocks = d.takes (due (start c) (drop t.place s.arrivals)) (every d.stream)

  abbrev pub packet_length : ℕ
  packet_length = 8 + block_bytes d.stream * blocks

  abbrev pub units_sent : List U
  units_sent = take (d.stream.dimension * blocks) (drop (d.stream.dimension * t.place) s.units)

  abbrev pub syt : ℕ
  syt = syt_for (every d.stream) d.delay s.arrivals t.place blocks c

  abbrev pub packet : List ℕ
  packet = header_bytes d.sid (dbs d.stream) (t.place % 256) (fdf d.stream) syt ++ flat_map d.stream.code units_sent

  -- why nothing is sent to so many bytes: the score and the cycle are looked at before the method is asked
  abbrev pub send_refusal : ℕ → Option SendFault
  send_refusal room = cond (bad_score d s t) (Some ScoreCase) (cond (not_later c t.last) (Some Cycle) (cond (nat_lt room packet_length) (Some Room) None))

  -- what a send answers, the bytes that it leaves, and the state that it leaves
  pub record Sends (bytes : List ℕ) (r : Result Sent SendFault) (bytes' : List ℕ) (t' : State) : Type 0 where
    pub answer : r ≡ answered (send_refusal (length bytes)) (record { blocks = blocks; length = packet_length })
    pub left : bytes' ≡ changed (send_refusal (length bytes)) bytes (packet ++ drop packet_length bytes)
    pub state : t' ≡ changed (send_refusal (length bytes)) t (record { place = t.place + blocks; last = Some c })
