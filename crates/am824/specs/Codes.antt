-- The quadlet of each AM824 unit.
use Rattle.std.specs.Prelude.{ℕ, ◌+◌, ◌*◌, ◌/◌, ◌%◌, List, [], ◌∷◌}
use Rattle.kinds.specs.Bits.{bytes}
use Rattle.kinds.specs.Nibbles.{value}
use Rattle.quadlets.specs.Markers.{marked}
use Rattle.quadlets.specs.declared.unit.Am824Unit.{Am824Unit}
use Rattle.quadlets.specs.declared.unit.Am824Unit.TheVariants.{Subframe, Raw24, Raw20, Raw16, Midi0, Midi1, Midi2, Midi3}

abbrev pub code : Am824Unit → List ℕ
code (Subframe m n d) = (16 * marked m + value n) ∷ bytes d
code (Raw24 d) = 0x40 ∷ bytes d
code (Raw20 w n) = 0x41 ∷ w / 256 ∷ w % 256 ∷ (16 * value n) ∷ []
code (Raw16 w) = 0x42 ∷ w / 256 ∷ w % 256 ∷ 0 ∷ []
code Midi0 = 0x80 ∷ 0 ∷ 0 ∷ 0 ∷ []
code (Midi1 x) = 0x81 ∷ x ∷ 0 ∷ 0 ∷ []
code (Midi2 x y) = 0x82 ∷ x ∷ y ∷ 0 ∷ []
code (Midi3 x y z) = 0x83 ∷ x ∷ y ∷ z ∷ []
