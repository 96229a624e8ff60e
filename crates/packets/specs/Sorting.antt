-- How a packet is sorted by a stream's plan.
use Rattle.std.specs.Prelude.{◌≡◌, ℕ, ◌+◌, ◌-◌, ◌*◌, ◌/◌, ◌%◌, Bool, true, false, cond, not, ◌&&◌, ◌||◌, List, length, drop, Some, None, Option, ◌==◌, nat_le, nat_lt, slice_index}
use Rattle.std.specs.Borrow.{Bor}
use Rattle.faults.specs.declared.packets.PacketFault.{PacketFault}
use Rattle.faults.specs.declared.packets.PacketFault.TheVariants.{Length, Header, Format, Payload as PayloadCase, Stamp}
use Rattle.plans.specs.Stamps.{stamped_index}
use Rattle.plans.specs.Streams.{Stream, every, dbs, fdf, block_bytes}
use Rattle.packets.specs.declared.sorted.Sorted.{Sorted}
use Rattle.packets.specs.declared.sorted.Sorted.TheVariants.{Data, Empty, Idle}

-- a byte of the packet, DBC, FDF and SYT
abbrev pub byte : List ℕ → ℕ → ℕ
byte bs k = slice_index bs k

abbrev pub dbc_of : List ℕ → ℕ
dbc_of bs = byte bs 3

abbrev pub syt_of : List ℕ → ℕ
syt_of bs = 256 * byte bs 6 + byte bs 7

-- SYT, unless it is FFFFh, which is no time
abbrev pub stamp_of : List ℕ → Option ℕ
stamp_of bs = cond (syt_of bs == 0xffff) None (Some (syt_of bs))

-- idle packets have FDF FFh
abbrev pub idle : List ℕ → Bool
idle bs = byte bs 5 == 0xff

-- fewer than 8 bytes, more than 4,096, or no whole quadlets
abbrev pub bad_length : List ℕ → Bool
bad_length bs = nat_lt (length bs) 8 || (nat_lt 4096 (length bs) || not (length bs % 4 == 0))

module _ {U : Type 0} (s : Stream U) (bs : List ℕ) where
  -- the top bits of the SID byte, the format byte, the zero byte, DBS
  abbrev pub bad_header : Bool
  bad_header = nat_lt 63 (byte bs 0) || (not (byte bs 4 == 0x90) || (not (byte bs 2 == 0) || not (byte bs 1 == dbs s)))

  abbrev pub bad_format : Bool
  bad_format = not (idle bs) && not (byte bs 5 == fdf s)

  -- the whole blocks of the payload
  abbrev pub blocks : ℕ
  blocks = (length bs - 8) / block_bytes s

  abbrev pub bad_payload : Bool
  bad_payload = not ((length bs - 8) % block_bytes s == 0) || nat_lt (every s) blocks

  -- a stamp, but no tick of a cycle, or no block that it could stamp
  abbrev pub bad_stamp : Bool
  bad_stamp = not (syt_of bs == 0xffff) && (nat_lt 3071 (syt_of bs % 4096) || nat_le blocks (stamped_index (every s) (dbc_of bs)))

  -- why the packet is refused: the smallest number wins, and an idle packet is not looked at beyond FDF
  abbrev pub refusal : Option PacketFault
  refusal =
      cond (bad_length bs) (Some Length)
      (cond bad_header (Some Header)
      (cond bad_format (Some Format)
      (cond (idle bs) None
      (cond bad_payload (Some PayloadCase)
      (cond bad_stamp (Some Stamp)
      None)))))

-- q is the part of the packet r from byte 8 on: that place in memory, and those bytes
pub record Payload (r q : Bor (List ℕ)) : Type 0 where
  pub place : q.ref_ptr ≡ (r.ref_ptr.0, r.ref_ptr.1 + 8)
  pub bytes : q.now ≡ drop 8 r.now

-- what a packet that is not refused is
abbrev pub Sorts : Bor (List ℕ) → Sorted → Type 0
Sorts r (Data q) = (idle r.now ≡ false) × ((length r.now == 8) ≡ false) × Payload r q
Sorts r Empty = (idle r.now ≡ false) × ((length r.now == 8) ≡ true)
Sorts r (Idle q) = (idle r.now ≡ true) × Payload r q
