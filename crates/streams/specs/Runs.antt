-- Lists of sends by one talker and of hearings by two listeners, and which of them are admitted.
use Rattle.std.specs.Prelude.{◌≡◌, ℕ, ◌+◌, ◌-◌, ◌*◌, ◌<◌, ◌≤◌, cond, List, [], ◌∷◌, ◌++◌, map, length, take, drop, None, Ok, Err, sum_by, Option, ◌==◌, slice_index_or, slice_range}
use Rattle.std.specs.List.{range_with_len}
use Rattle.faults.specs.declared.packets.PacketFault.{PacketFault}
use Rattle.packets.specs.Sorting.{dbc_of}
use Rattle.plans.specs.Stamps.{stamped_index}
use Rattle.plans.specs.Streams.{Stream, every}
use Rattle.talkers.specs.declared.fault.SendFault.{SendFault}
use Rattle.talkers.specs.Sending.{Desk, Score, State as Talker, Sends}
use Rattle.listeners.specs.declared.heard.Heard.{Heard}
use Rattle.listeners.specs.Hearing.{State as Listener, Hears}

pub data Who : Type 0 where
  first second : Who

abbrev pub other : Who → Who
other first = second
other second = first

-- One call, with what it was given, what it answered and what it left behind. An accepted hearing says which packet it was given,
-- counted from 0 in the order sent.
pub data Call (U : Type 0) : Type 0 where
  sends : (score : Score U) (cycle : ℕ) (bytes : List ℕ) (count len : ℕ) (bytes' : List ℕ) → Call U
  send_refused : (score : Score U) (cycle : ℕ) (bytes : List ℕ) (fault : SendFault) (bytes' : List ℕ) → Call U
  hears : (who : Who) (which : ℕ) (cycle : ℕ) (packet : List ℕ) (list : List U) (answer : Heard) (list' : List U) → Call U
  hear_refused : (who : Who) (cycle : ℕ) (packet : List ℕ) (list : List U) (fault : PacketFault) (list' : List U) → Call U

-- The calls so far, in their order.
infixl 20 ◌then◌
pub data Calls (U : Type 0) : Type 0 where
  none_yet : Calls U
  ◌then◌ : Calls U → Call U → Calls U

pub record Three : Type 0 where
  pub talker : Talker
  pub listener1 : Listener
  pub listener2 : Listener

abbrev pub the : Who → Three → Listener
the first w = w.listener1
the second w = w.listener2

abbrev pub fresh_talker : Talker
fresh_talker = record { place = 0; last = None }

abbrev pub fresh_listener : Listener
fresh_listener = record { next = 0; heard = 0; missed = 0; last = None }

abbrev pub fresh : Three
fresh = record { talker = fresh_talker; listener1 = fresh_listener; listener2 = fresh_listener }

-- what an accepted send wrote
pub record Packet : Type 0 where
  pub cycle : ℕ
  pub bytes : List ℕ
  pub count : ℕ

abbrev pub no_packet : Packet
no_packet = record { cycle = 0; bytes = []; count = 0 }

abbrev pub packet_at : List Packet → ℕ → Packet
packet_at ps j = slice_index_or ps j no_packet

-- the block count of some packets
abbrev pub blocks : List Packet → ℕ
blocks ps = sum_by (λ (p : Packet). p.count) ps

-- the number of a packet's first block
abbrev pub start : List Packet → ℕ → ℕ
start ps j = blocks (take j ps)

-- a block that a listener hands out
pub record Block (U : Type 0) : Type 0 where
  pub number : ℕ
  pub units : List U
  pub time : Option ℕ

abbrev pub if_same : {X : Type 0} → Who → Who → X → X → X
if_same first first x y = x
if_same first second x y = y
if_same second first x y = y
if_same second second x y = x

module _ {U : Type 0} where
  -- the packets that were sent, in their order
  abbrev pub packets : Calls U → List Packet
  packets none_yet = []
  packets (cs then sends score cycle bytes count len bytes') = packets cs ++ (record { cycle = cycle; bytes = take len bytes'; count = count } ∷ [])
  packets (cs then send_refused score cycle bytes fault bytes') = packets cs
  packets (cs then hears who which cycle packet list answer list') = packets cs
  packets (cs then hear_refused who cycle packet list fault list') = packets cs

  -- the packets that a listener accepted, by their places in the order sent
  abbrev pub accepted : Who → Calls U → List ℕ
  accepted l none_yet = []
  accepted l (cs then sends score cycle bytes count len bytes') = accepted l cs
  accepted l (cs then send_refused score cycle bytes fault bytes') = accepted l cs
  accepted l (cs then hears who which cycle packet list answer list') = if_same l who (accepted l cs ++ (which ∷ [])) (accepted l cs)
  accepted l (cs then hear_refused who cycle packet list fault list') = accepted l cs

  -- how many packets were sent up to and with the last that a listener accepted
  abbrev pub reached : Who → Calls U → ℕ
  reached l none_yet = 0
  reached l (cs then sends score cycle bytes count len bytes') = reached l cs
  reached l (cs then send_refused score cycle bytes fault bytes') = reached l cs
  reached l (cs then hears who which cycle packet list answer list') = if_same l who (which + 1) (reached l cs)
  reached l (cs then hear_refused who cycle packet list fault list') = reached l cs

  abbrev pub end : Who → Calls U → ℕ
  end l cs = start (packets cs) (reached l cs)

  -- the numbers that a listener named missing
  abbrev pub named_missing : Who → Calls U → List ℕ
  named_missing l none_yet = []
  named_missing l (cs then sends score cycle bytes count len bytes') = named_missing l cs
  named_missing l (cs then send_refused score cycle bytes fault bytes') = named_missing l cs
  named_missing l (cs then hears who which cycle packet list a list') =
      if_same l who (named_missing l cs ++ range_with_len (a.first - a.gap) a.gap) (named_missing l cs)
  named_missing l (cs then hear_refused who cycle packet list fault list') = named_missing l cs

module _ {U : Type 0} (p : Stream U) where
  -- the block at an index of an accepted hearing
  abbrev pub block_heard : List ℕ → Heard → List U → ℕ → Block U
  block_heard packet a list' i = record {
    number = a.first + i;
    units = take p.dimension (drop (p.dimension * i) list');
    time = cond (i == stamped_index (every p) (dbc_of packet)) a.time None;
  }

  abbrev pub blocks_heard : List ℕ → Heard → List U → List (Block U)
  blocks_heard packet a list' = map (block_heard packet a list') (range_with_len 0 a.blocks)

  -- the blocks that a listener handed out, in their order
  abbrev pub handed_out : Who → Calls U → List (Block U)
  handed_out l none_yet = []
  handed_out l (cs then sends score cycle bytes count len bytes') = handed_out l cs
  handed_out l (cs then send_refused score cycle bytes fault bytes') = handed_out l cs
  handed_out l (cs then hears who which cycle packet list a list') =
      if_same l who (handed_out l cs ++ blocks_heard packet a list') (handed_out l cs)
  handed_out l (cs then hear_refused who cycle packet list fault list') = handed_out l cs

-- The first leaves no packet out; the second may, with fewer than 256 blocks missed at a time.
abbrev pub LeftOut : Who → List Packet → ℕ → ℕ → Type 0
LeftOut first ps reached which = which ≡ reached
LeftOut second ps reached which = blocks (slice_range ps reached which) < 256

-- a packet that was sent is heard in its cycle, in the order sent, and at most once
pub record HeardInOrder (who : Who) (ps : List Packet) (reached which cycle : ℕ) (packet : List ℕ) : Type 0 where
  pub was_sent : which < length ps
  pub onward : reached ≤ which
  pub its_cycle : cycle ≡ (packet_at ps which).cycle
  pub its_bytes : packet ≡ (packet_at ps which).bytes
  pub left_out : LeftOut who ps reached which

-- which call may come next
abbrev pub Admits : {U : Type 0} → Score U → Calls U → Call U → Type 0
Admits s cs (sends score cycle bytes count len bytes') = score ≡ s
Admits s cs (send_refused score cycle bytes fault bytes') = Unit {0}
Admits s cs (hears who which cycle packet list answer list') = HeardInOrder who (packets cs) (reached who cs) which cycle packet
Admits s cs (hear_refused who cycle packet list fault list') = Unit {0}

-- A list of calls that is admitted, with the one score of its accepted sends.
abbrev pub Admitted : {U : Type 0} → Score U → Calls U → Type 0
Admitted s none_yet = Unit {0}
Admitted s (cs then c) = Admitted s cs × Admits s cs c

module _ {U : Type 0} (d : Desk U) where
  -- What a call does to the three: its own part is by the meaning of a send or of a hearing, and the others stay.
  abbrev pub Step : Three → Call U → Three → Type 0
  Step v (sends score cycle bytes count len bytes') w =
      Sends d score v.talker cycle bytes (Ok (record { blocks = count; length = len })) bytes' w.talker × (w.listener1 ≡ v.listener1) × (w.listener2 ≡ v.listener2)
  Step v (send_refused score cycle bytes fault bytes') w =
      Sends d score v.talker cycle bytes (Err fault) bytes' w.talker × (w.listener1 ≡ v.listener1) × (w.listener2 ≡ v.listener2)
  Step v (hears who which cycle packet list answer list') w =
      Hears d.stream cycle packet (the who v) list (Ok answer) list' (the who w) × (the (other who) w ≡ the (other who) v) × (w.talker ≡ v.talker)
  Step v (hear_refused who cycle packet list fault list') w =
      Hears d.stream cycle packet (the who v) list (Err fault) list' (the who w) × (the (other who) w ≡ the (other who) v) × (w.talker ≡ v.talker)

  -- The calls were made in this order, from the making of the three on, and nothing else changed the three.
  pub data Run : Calls U → Three → Type 0 where
    made : Run none_yet fresh
    goes_on : {cs : Calls U} {v : Three} {c : Call U} {w : Three} → Run cs v → Step v c w → Run (cs then c) w
