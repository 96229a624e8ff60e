-- What an AM824 unit means, in words.
use Rattle.std.specs.Prelude.{ℕ, ◌+◌, ◌*◌, List, ◌++◌, codes, decimal}
use Rattle.std.specs.Fmt.{signed_decimal}
use Rattle.kinds.specs.declared.bits24.Bits24.{Bits24}
use Rattle.kinds.specs.Bits.{field, number, from_field}
use Rattle.kinds.specs.Nibbles.{value}
use Rattle.quadlets.specs.declared.marker.Marker.{Marker}
use Rattle.quadlets.specs.declared.marker.Marker.TheVariants.{Second, First, Start}
use Rattle.quadlets.specs.declared.unit.Am824Unit.{Am824Unit}
use Rattle.quadlets.specs.declared.unit.Am824Unit.TheVariants.{Subframe, Raw24, Raw20, Raw16, Midi0, Midi1, Midi2, Midi3}

abbrev pub marker_text : Marker → List ℕ
marker_text Second = codes "second subframe"
marker_text First = codes "first subframe"
marker_text Start = codes "first subframe of frame 0"

abbrev pub sample_text : ℕ → Bits24 → List ℕ
sample_text length b = decimal length ++ (codes "-bit sample " ++ signed_decimal (number b))

abbrev pub text : Am824Unit → List ℕ
text (Subframe m n d) = marker_text m ++ (codes ", flags " ++ (decimal (value n) ++ (codes ", bits " ++ decimal (field d))))
text (Raw24 d) = sample_text 24 d
text (Raw20 w n) = sample_text 20 (from_field (256 * w + 16 * value n))
text (Raw16 w) = sample_text 16 (from_field (256 * w))
text Midi0 = codes "no MIDI byte"
text (Midi1 x) = codes "MIDI byte " ++ decimal x
text (Midi2 x y) = codes "MIDI bytes " ++ (decimal x ++ (codes " " ++ decimal y))
text (Midi3 x y z) = codes "MIDI bytes " ++ (decimal x ++ (codes " " ++ (decimal y ++ (codes " " ++ decimal z))))
