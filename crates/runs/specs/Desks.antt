-- What the worked runs share: AM824, one unit a block, and samples that count up.
use Rattle.std.specs.Prelude.{ℕ, min, List, map}
use Rattle.std.specs.List.{range_with_len}
use Rattle.quadlets.specs.declared.unit.Am824Unit.{Am824Unit}
use Rattle.quadlets.specs.declared.unit.Am824Unit.TheVariants.{Raw24}
use Rattle.am824.specs.Codes.{code}
use Rattle.am824.specs.Reading.{heard}
use Rattle.plans.specs.Streams.{Stream}
use Rattle.talkers.specs.Sending.{Desk}

-- at the rate of this sampling frequency code
abbrev pub at_rate : ℕ → Stream Am824Unit
at_rate sfc = record { size = 1; code = code; heard = heard; sfc = sfc; dimension = 1; event = 0 }

-- without blocking, from node 1
abbrev pub desk_at : ℕ → Desk Am824Unit
desk_at sfc = record { stream = at_rate sfc; takes = min; sid = 1; delay = 8704 }

-- a sample of this value, below 65,536
abbrev pub sample : ℕ → Am824Unit
sample n = Raw24 (record { high = 0; low = n })

abbrev pub samples : ℕ → ℕ → List Am824Unit
samples from count = map sample (range_with_len from count)
