-- The unit of a sample gives its length code and number back.
use Rattle.std.proofs.Common.{◌≡◌, ℕ, ◌+◌, ◌*◌, ◌/◌, ◌%◌, false, eqb, [], ◌∷◌, ℤ, Some, Option, sym, refl, ap, ◌∙◌, arith, rules, eqb-true}
use Rattle.std.proofs.lemmas.Bool.{cond_both}
use Rattle.std.proofs.lemmas.Bool.Decides.{nat_tests}
use Rattle.kinds.specs.Bits.{field, number, twos, outside, from_field, low_bits}
use Rattle.kinds.specs.Nibbles.{value, low}
use Rattle.kinds.proofs.Nibbles.{value_low}
use Rattle.quadlets.specs.declared.unit.Am824Unit.{Am824Unit}
use Rattle.am824.specs.Codes.{code as code_of}
use Rattle.samples.specs.Samples.{no_sample, raw_field, raw_bytes, raw_of}

-- a number inside the range of a sample is its 24 bits
pub field_low : (z : ℤ) → outside z ≡ false → field (low_bits z) ≡ twos z
field_low z h = search rules

pub number_twos : (z : ℤ) → outside z ≡ false → number (from_field (twos z)) ≡ z
number_twos z h = search rules

module _ (code : ℕ) (z : ℤ) (h : no_sample code z ≡ false) (e : number (from_field (twos z)) ≡ z) where
  -- the pair, by a length code and a field that are the sample's
  told : (k m : ℕ) → code ≡ k → m ≡ twos z → ◌≡◌ {A = Option (ℕ × ℤ)} (Some (k, number (from_field m))) (Some (code, z))
  told k m p q = λ i. Some (sym p i, (ap (λ x. number (from_field x)) q ∙ e) i)

  pub raw_back : raw_of (raw_field code (twos z)) ≡ Some (code, z)
  raw_back =
      let n = twos z in
      let P : Am824Unit → Type 0 = λ u. raw_of u ≡ Some (code, z) in
      cond_both (eqb code 0) _ _ P (λ t. told 0 n (eqb-true code 0 t) refl)
      (λ f. cond_both (eqb code 1) _ _ P
      (λ t. let v = value_low (n / 16) in let m : n % 16 ≡ 0 = grind (arith, nat_tests) in told 1 (256 * (n / 256) + 16 * value (low (n / 16))) (eqb-true code 1 t) (omega arith))
      (λ g. let k : code ≡ 2 = grind (arith, nat_tests) in let m : n % 256 ≡ 0 = grind (arith, nat_tests) in told 2 (256 * (n / 256)) k (omega arith)))

  -- a quadlet whose four bytes are the sample's
  laid : (k b c d : ℕ) → code ≡ k → b ≡ twos z / 65536 → c ≡ twos z / 256 % 256 → d ≡ twos z % 256 → (0x40 + k) ∷ b ∷ c ∷ d ∷ [] ≡ raw_bytes code z
  laid k b c d p q r s = λ i. (0x40 + sym p i) ∷ q i ∷ r i ∷ s i ∷ []

  pub bytes_of_raw : code_of (raw_field code (twos z)) ≡ raw_bytes code z
  bytes_of_raw =
      let n = twos z in
      let P : Am824Unit → Type 0 = λ u. code_of u ≡ raw_bytes code z in
      cond_both (eqb code 0) _ _ P (λ t. laid 0 (n / 65536) (n % 65536 / 256) (n % 65536 % 256) (eqb-true code 0 t) refl (omega arith) (omega arith))
      (λ f. cond_both (eqb code 1) _ _ P
      (λ t. let v = value_low (n / 16) in let m : n % 16 ≡ 0 = grind (arith, nat_tests) in laid 1 (n / 256 / 256) (n / 256 % 256) (16 * value (low (n / 16))) (eqb-true code 1 t) (omega arith) refl (omega arith))
      (λ g. let k : code ≡ 2 = grind (arith, nat_tests) in let m : n % 256 ≡ 0 = grind (arith, nat_tests) in laid 2 (n / 256 / 256) (n / 256 % 256) 0 k (omega arith) refl (omega arith)))
