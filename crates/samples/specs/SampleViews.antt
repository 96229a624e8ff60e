-- What a sample is made of.
use Rattle.std.specs.Prelude.{◌≡◌, ℕ, true, false, ℤ, Ok, Err, Result}
use Rattle.faults.specs.declared.units.UnitFault.{UnitFault}
use Rattle.faults.specs.Units.{field}
use Rattle.samples.specs.declared.sample.Sample.{Sample}
use Rattle.samples.specs.Samples.{no_sample}

abbrev pub plain : Sample → ℕ × ℤ
plain s = (s.code, s.number)

-- refused where there is no such sample, else that sample
abbrev pub Sampled : ℕ → ℤ → Result Sample UnitFault → Type 0
Sampled code n (Ok s) = (no_sample code n ≡ false) × (s.code ≡ code) × (s.number ≡ n)
Sampled code n (Err f) = (no_sample code n ≡ true) × (f ≡ field)
