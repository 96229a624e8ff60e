use Rattle.std.proofs.Common.{◌≡◌, ap, ◌∙◌, rules}
use Rattle.kinds.specs.Bits.{number, twos, from_field}
use Rattle.am824.specs.Codes.{code}
use Rattle.samples.specs.Samples.{raw_field, raw_of}
use Rattle.samples.proofs.Samples.{field_low, number_twos, raw_back, bytes_of_raw}
use Rattle.samples.proofs.sample.Sample.unit.Goals as goal

pub returns : goal.returns
returns c =
    let s = c.args.self in
    let e : c.raw.result ≡ raw_field s.code (twos s.number) = search (rules, field_low) in
    let n : number (from_field (twos s.number)) ≡ s.number = number_twos s.number (search rules) in
    record { value = e; back = ap raw_of e ∙ raw_back s.code s.number s.clear n; bytes = ap code e ∙ bytes_of_raw s.code s.number s.clear n }
