-- Any quadlet is a word, and its four bytes are its code.
use Rattle.std.specs.Prelude.{ℕ, ◌+◌, ◌*◌, ◌/◌, ◌%◌, List, [], ◌∷◌, Ok, Result, slice_index}
use Rattle.faults.specs.declared.units.UnitFault.{UnitFault}
use Rattle.examples.specs.declared.word.WordUnit.{WordUnit}

abbrev pub code : WordUnit → List ℕ
code u = u.high / 256 ∷ u.high % 256 ∷ u.low / 256 ∷ u.low % 256 ∷ []

abbrev pub heard : List ℕ → Result WordUnit UnitFault
heard bs = Ok (record { high = 256 * slice_index bs 0 + slice_index bs 1; low = 256 * slice_index bs 2 + slice_index bs 3 })
