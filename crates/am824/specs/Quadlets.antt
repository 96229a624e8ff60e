-- A quadlet is a unit exactly where it is that unit's code.
use Rattle.std.specs.Prelude.{◌≡◌, ℕ, ◌+◌, ◌*◌, ◌/◌, ◌%◌, ◌<◌, ◌≤◌, false, ◌&&◌, [], ◌∷◌, Ok, Err, Result, ◌==◌, nat_le, nat_lt}
use Rattle.std.proofs.Common.{ap, sym, ◌∙◌, arith, eqb-true}
use Rattle.std.proofs.lemmas.Bool.{cond_both}
use Rattle.std.proofs.lemmas.Bool.Decides.{nat_tests}
use Rattle.faults.specs.declared.units.UnitFault.{UnitFault}
use Rattle.kinds.specs.declared.nibble.Nibble.{Nibble}
use Rattle.kinds.specs.Bits.{from_bytes}
use Rattle.kinds.specs.Nibbles.{value, low}
use Rattle.kinds.proofs.Nibbles.{value_most, value_low, low_value}
use Rattle.quadlets.specs.declared.marker.Marker.{Marker}
use Rattle.quadlets.specs.declared.marker.Marker.TheVariants.{Second, First, Start}
use Rattle.quadlets.specs.declared.unit.Am824Unit.{Am824Unit}
use Rattle.quadlets.specs.declared.unit.Am824Unit.TheVariants.{Subframe, Raw20}
use Rattle.quadlets.specs.Markers.{marked}
use Rattle.am824.specs.Codes.{code}
use Rattle.am824.specs.Reading.{within, strange, padded, unit, quadlet}

-- a label below 40h whose upper half a marker makes
labelled : (m : Marker) (v b c d : ℕ) → v ≤ 15 → quadlet (16 * marked m + v) b c d ≡ Ok (Subframe m (low (16 * marked m + v)) (from_bytes b c d))
labelled Second v b c d h = grind (arith, nat_tests)
labelled First v b c d h = grind (arith, nat_tests)
labelled Start v b c d h = grind (arith, nat_tests)

pub framed : (m : Marker) (n : Nibble) (b c d : ℕ) → quadlet (16 * marked m + value n) b c d ≡ Ok (Subframe m n (from_bytes b c d))
framed m n b c d =
    labelled m (value n) b c d (value_most n) ∙ ap (λ k. Ok (Subframe m k (from_bytes b c d))) (low_value (marked m) n)

pub halves : (n : ℕ) → 256 * (n / 256) + n % 256 ≡ n
halves n = omega arith

padless : (b c v : ℕ) → quadlet 0x41 b c (16 * v) ≡ Ok (Raw20 (256 * b + c) (low (16 * v / 16)))
padless b c v = grind (arith, nat_tests)

pub raw20 : (b c : ℕ) (n : Nibble) → quadlet 0x41 b c (16 * value n) ≡ Ok (Raw20 (256 * b + c) n)
raw20 b c n =
    let e : 16 * value n / 16 ≡ 16 * 0 + value n = omega arith in
    padless b c (value n) ∙ ap (λ k. Ok (Raw20 (256 * b + c) k)) (ap low e ∙ low_value 0 n)

module _ (a b c d : ℕ) where
  module _ (h : c < 256) (i : d < 256) where
    upper : c ≡ (256 * c + d) / 256
    upper = omega arith

    lower : d ≡ (256 * c + d) % 256
    lower = omega arith

    subframe : (m : Marker) → a ≡ 16 * marked m + a % 16 → a ∷ b ∷ c ∷ d ∷ [] ≡ code (Subframe m (low a) (from_bytes b c d))
    subframe m e = let x : a ≡ 16 * marked m + value (low a) = e ∙ ap (λ v. 16 * marked m + v) (sym (value_low a)) in λ j. x j ∷ b ∷ upper j ∷ lower j ∷ []

    -- where nothing is refused, the quadlet is the code of its unit
    coded : strange a ≡ false → padded a d ≡ false → (a == 0x80 && nat_lt 0 b) ≡ false → (within 0x80 0x81 a && nat_lt 0 c) ≡ false → (within 0x80 0x82 a && nat_lt 0 d) ≡ false → a ∷ b ∷ c ∷ d ∷ [] ≡ code (unit a b c d)
    coded s p x y z =
        let P : Am824Unit → Type 0 = λ u. a ∷ b ∷ c ∷ d ∷ [] ≡ code u in
        let front : b ≡ (256 * b + c) / 256 = omega arith in
        let back : c ≡ (256 * b + c) % 256 = omega arith in
        cond_both (nat_le a 0x0f) _ _ P (λ t. subframe Second (grind (arith, nat_tests)))
        (λ f0. cond_both (nat_le a 0x1f) _ _ P (λ t. subframe First (grind (arith, nat_tests)))
        (λ f1. cond_both (nat_le a 0x3f) _ _ P (λ t. subframe Start (grind (arith, nat_tests)))
        (λ f2. cond_both (a == 0x40) _ _ P (λ t. λ j. eqb-true a 0x40 t j ∷ b ∷ upper j ∷ lower j ∷ [])
        (λ f3. cond_both (a == 0x41) _ _ P (λ t. let w : d ≡ 16 * (d / 16 % 16) = grind (arith, nat_tests) in let v = w ∙ ap (λ k. 16 * k) (sym (value_low (d / 16))) in λ j. eqb-true a 0x41 t j ∷ front j ∷ back j ∷ v j ∷ [])
        (λ f4. cond_both (a == 0x42) _ _ P (λ t. let w : d ≡ 0 = grind (arith, nat_tests) in λ j. eqb-true a 0x42 t j ∷ front j ∷ back j ∷ w j ∷ [])
        (λ f5. cond_both (a == 0x80) _ _ P (λ t. grind (arith, nat_tests))
        (λ f6. cond_both (a == 0x81) _ _ P (λ t. grind (arith, nat_tests))
        (λ f7. cond_both (a == 0x82) _ _ P (λ t. grind (arith, nat_tests)) (λ f8. grind (arith, nat_tests))))))))))

  -- what an answer says of the four bytes
  abbrev pub Sound : Result Am824Unit UnitFault → Type 0
  Sound (Ok u) = (c < 256 → d < 256 → a ∷ b ∷ c ∷ d ∷ [] ≡ code u)
  Sound (Err f) = f.place < 4

  pub sound : Sound (quadlet a b c d)
  sound =
      cond_both (strange a) _ _ Sound (λ s. omega arith)
      (λ s. cond_both (padded a d) _ _ Sound (λ p. omega arith)
      (λ p. cond_both (a == 0x80 && nat_lt 0 b) _ _ Sound (λ x. omega arith)
      (λ x. cond_both (within 0x80 0x81 a && nat_lt 0 c) _ _ Sound (λ y. omega arith)
      (λ y. cond_both (within 0x80 0x82 a && nat_lt 0 d) _ _ Sound (λ z. omega arith)
      (λ z h i. coded h i s p x y z)))))
