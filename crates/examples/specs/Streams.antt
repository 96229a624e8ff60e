-- A stream of ten silent blocks, sent by both methods: what the definitions of a send give.
use Rattle.std.specs.Prelude.{◌≡◌, ℕ, ◌≤◌, min, List, [], ◌∷◌, take, Some, None}
use Rattle.quadlets.specs.declared.unit.Am824Unit.{Am824Unit}
use Rattle.quadlets.specs.declared.unit.Am824Unit.TheVariants.{Raw24}
use Rattle.am824.specs.Codes.{code}
use Rattle.am824.specs.Reading.{heard}
use Rattle.faults.specs.declared.packets.PacketFault.TheVariants.{Stamp}
use Rattle.packets.specs.Sorting.{refusal}
use Rattle.plans.specs.Methods.{whole}
use Rattle.plans.specs.Streams.{Stream}
use Rattle.talkers.specs.Sending.{Desk, State, Score, blocks, packet_length, packet, send_refusal}

-- AM824 at 48 kHz, two units a block
abbrev pub plan : Stream Am824Unit
plan = record { size = 1; code = code; heard = heard; sfc = 2; dimension = 2; event = 0 }

-- from node 1
abbrev pub by : (ℕ → ℕ → ℕ) → ℕ → Desk Am824Unit
by takes delay = record { stream = plan; takes = takes; sid = 1; delay = delay }

abbrev pub silence : Am824Unit
silence = Raw24 (record { high = 0; low = 0 })

-- block n arrives at 512 × n
abbrev pub score : Score Am824Unit
score = record {
  arrivals = 0 ∷ 512 ∷ 1024 ∷ 1536 ∷ 2048 ∷ 2560 ∷ 3072 ∷ 3584 ∷ 4096 ∷ 4608 ∷ [];
  units =
      silence ∷ silence ∷ silence ∷ silence ∷ silence ∷ silence ∷ silence ∷ silence ∷ silence ∷ silence
      ∷ silence ∷ silence ∷ silence ∷ silence ∷ silence ∷ silence ∷ silence ∷ silence ∷ silence ∷ silence ∷ [];
}

abbrev pub fresh : State
fresh = record { place = 0; last = None }

abbrev pub after : ℕ → ℕ → State
after place cycle = record { place = place; last = Some cycle }

-- a send is accepted where its bytes suffice, and so many blocks go in so many bytes behind this header
pub record SentAs (d : Desk Am824Unit) (t : State) (cycle n len : ℕ) (header : List ℕ) : Type 0 where
  pub accepted : (room : ℕ) → len ≤ room → send_refusal d score t cycle room ≡ None
  pub count : blocks d score t cycle ≡ n
  pub bytes : packet_length d score t cycle ≡ len
  pub front : take 8 (packet d score t cycle) ≡ header

-- cycles 1, 2 and 3: seven blocks, three blocks, none
abbrev pub WithoutBlocking : Type 0
WithoutBlocking =
    SentAs (by min 8704) fresh 1 7 64 (0x01 ∷ 0x02 ∷ 0x00 ∷ 0x00 ∷ 0x90 ∷ 0x02 ∷ 0x2a ∷ 0x00 ∷ [])
    × SentAs (by min 8704) (after 7 1) 2 3 32 (0x01 ∷ 0x02 ∷ 0x00 ∷ 0x07 ∷ 0x90 ∷ 0x02 ∷ 0x42 ∷ 0x00 ∷ [])
    × SentAs (by min 8704) (after 10 2) 3 0 8 (0x01 ∷ 0x02 ∷ 0x00 ∷ 0x0a ∷ 0x90 ∷ 0x02 ∷ 0xff ∷ 0xff ∷ [])

-- cycles 1 and 2: none, eight blocks; without a delay the stamped block is late
abbrev pub WithBlocking : Type 0
WithBlocking =
    SentAs (by whole 8704) fresh 1 0 8 (0x01 ∷ 0x02 ∷ 0x00 ∷ 0x00 ∷ 0x90 ∷ 0x02 ∷ 0xff ∷ 0xff ∷ [])
    × SentAs (by whole 8704) (after 0 1) 2 8 72 (0x01 ∷ 0x02 ∷ 0x00 ∷ 0x00 ∷ 0x90 ∷ 0x02 ∷ 0x2a ∷ 0x00 ∷ [])
    × SentAs (by whole 0) (after 0 1) 2 8 72 (0x01 ∷ 0x02 ∷ 0x00 ∷ 0x00 ∷ 0x90 ∷ 0x02 ∷ 0xff ∷ 0xff ∷ [])

-- a packet of one block with this stamp
abbrev pub stamped : ℕ → ℕ → List ℕ
stamped high low = 0x01 ∷ 0x02 ∷ 0x00 ∷ 0x00 ∷ 0x90 ∷ 0x02 ∷ high ∷ low ∷ 0x40 ∷ 0 ∷ 0 ∷ 0 ∷ 0x40 ∷ 0 ∷ 0 ∷ 0 ∷ []

-- the last tick of a cycle is a time, and the next number is none
abbrev pub LastTick : Type 0
LastTick = (refusal plan (stamped 0x2b 0xff) ≡ None) × (refusal plan (stamped 0x2c 0x00) ≡ Some Stamp)
