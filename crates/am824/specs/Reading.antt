-- What four bytes are: an AM824 unit, or why there is none.
use Rattle.std.specs.Prelude.{ℕ, ◌+◌, ◌*◌, ◌/◌, ◌%◌, Bool, cond, ◌&&◌, ◌||◌, List, Ok, Err, Result, ◌==◌, nat_le, nat_lt, slice_index}
use Rattle.faults.specs.declared.units.UnitFault.{UnitFault}
use Rattle.faults.specs.Units.{label, padding, unused}
use Rattle.kinds.specs.Bits.{from_bytes}
use Rattle.kinds.specs.Nibbles.{low}
use Rattle.quadlets.specs.declared.marker.Marker.TheVariants.{Second, First, Start}
use Rattle.quadlets.specs.declared.unit.Am824Unit.{Am824Unit}
use Rattle.quadlets.specs.declared.unit.Am824Unit.TheVariants.{Subframe, Raw24, Raw20, Raw16, Midi0, Midi1, Midi2, Midi3}

abbrev pub within : ℕ → ℕ → ℕ → Bool
within first last n = nat_le first n && nat_le n last

-- the labels that no unit has
abbrev pub strange : ℕ → Bool
strange a = within 0x20 0x2f a || within 0x43 0x7f a || nat_le 0x84 a

-- a sample of 20 or 16 bits whose last 4 or 8 bits are not zero
abbrev pub padded : ℕ → ℕ → Bool
padded a d = a == 0x41 && nat_lt 0 (d % 16) || a == 0x42 && nat_lt 0 d

-- the unit of a label and three bytes, where nothing is refused
abbrev pub unit : ℕ → ℕ → ℕ → ℕ → Am824Unit
unit a b c d =
    cond (nat_le a 0x0f) (Subframe Second (low a) (from_bytes b c d))
    (cond (nat_le a 0x1f) (Subframe First (low a) (from_bytes b c d))
    (cond (nat_le a 0x3f) (Subframe Start (low a) (from_bytes b c d))
    (cond (a == 0x40) (Raw24 (from_bytes b c d))
    (cond (a == 0x41) (Raw20 (256 * b + c) (low (d / 16)))
    (cond (a == 0x42) (Raw16 (256 * b + c))
    (cond (a == 0x80) Midi0
    (cond (a == 0x81) (Midi1 b)
    (cond (a == 0x82) (Midi2 b c)
    (Midi3 b c d)))))))))

abbrev pub quadlet : ℕ → ℕ → ℕ → ℕ → Result Am824Unit UnitFault
quadlet a b c d =
    cond (strange a) (Err label)
    (cond (padded a d) (Err padding)
    (cond (a == 0x80 && nat_lt 0 b) (Err (unused 1))
    (cond (within 0x80 0x81 a && nat_lt 0 c) (Err (unused 2))
    (cond (within 0x80 0x82 a && nat_lt 0 d) (Err (unused 3))
    (Ok (unit a b c d))))))

abbrev pub heard : List ℕ → Result Am824Unit UnitFault
heard bs = quadlet (slice_index bs 0) (slice_index bs 1) (slice_index bs 2) (slice_index bs 3)
