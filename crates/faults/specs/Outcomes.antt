-- What a call answers and leaves, by its refusal or by the want of one.
use Rattle.std.specs.Prelude.{Some, None, Ok, Err, Option, Result}

abbrev pub answered : {T E : Type 0} → Option E → T → Result T E
answered (Some f) x = Err f
answered None x = Ok x

-- a refusal leaves what was there
abbrev pub changed : {X E : Type 0} → Option E → X → X → X
changed (Some f) was new = was
changed None was new = new
