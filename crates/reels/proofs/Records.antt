-- The bytes of records, one record more.
use Rattle.std.proofs.Common.{◌≡◌, ◌*◌, ◌≤◌, List, [], ◌∷◌, ◌++◌, length, Some, refl, ap, arith}
use Rattle.std.proofs.lemmas.List.{length-append, length_push, take_at}
use Rattle.std.proofs.lemmas.List.Sums.{sum_by-cons}
use Rattle.std.specs.List.{flat_map}
use Rattle.reels.specs.Bytes.{bytes2, bytes4}
use Rattle.reels.specs.Records.{Record, record_bytes, size_of, extent, last_place}

pub length_record : (r : Record) → length (record_bytes r) ≡ size_of r
length_record r = length-append (bytes4 r.cycle ++ bytes2 (length r.packet)) r.packet

pub length_records : (rs : List Record) → length (flat_map record_bytes rs) ≡ extent rs
length_records [] = refl
length_records (r ∷ rs) = omega (arith, length-append (record_bytes r) (flat_map record_bytes rs), length_record r, length_records rs, sum_by-cons size_of r rs)

-- each record takes six bytes or more
pub six_each : (rs : List Record) → 6 * length rs ≤ extent rs
six_each [] = omega arith
six_each (r ∷ rs) = omega (arith, six_each rs, sum_by-cons size_of r rs)

pub last_place_push : (rs : List Record) (r : Record) → last_place (rs ++ r ∷ []) ≡ Some (extent rs)
last_place_push [] r = refl
last_place_push (x ∷ xs) r = ap (λ s. Some (extent s)) (take_at (x ∷ xs) (r ∷ []) (length (xs ++ r ∷ [])) (omega (arith, length_push xs r)))
