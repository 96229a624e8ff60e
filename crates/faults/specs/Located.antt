-- An answer, its fault told with a position.
use Rattle.std.specs.Prelude.{Ok, Err, Result}
use Rattle.faults.specs.declared.located.Located.{Located}

abbrev pub located : {P T F : Type 0} → P → Result T F → Result T (Located P F)
located p (Ok x) = Ok x
located p (Err f) = Err (record { position = p; fault = f })
