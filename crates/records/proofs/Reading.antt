-- The records of some bytes, one after another.
use Rattle.std.proofs.Common.{◌≡◌, ℕ, zero, suc, ◌+◌, ◌-◌, ◌*◌, ◌<◌, ◌≤◌, Bool, true, false, List, [], ◌∷◌, length, drop, fold, map, sym, refl, ap, ◌∙◌, arith}
use Rattle.std.proofs.lemmas.List.{length-drop, length-take-le}
use Rattle.std.proofs.lemmas.List.Sums.{sum_by-cons}
use Rattle.std.proofs.lemmas.Bool.{cond-true, cond-false, leb-true}
use Rattle.faults.specs.declared.records.RecordPosition.{RecordPosition}
use Rattle.reels.specs.Bytes.{two}
use Rattle.reels.specs.Records.{Record, size_of, extent}
use Rattle.reels.proofs.Records.{six_each}
use Rattle.records.specs.Reading.{front_size, whole, front, up_to, records, behind, placed}

pub up_to_none : (n : ℕ) (bs : List ℕ) → whole bs ≡ false → up_to n bs ≡ []
unfolding up_to
up_to_none zero bs e = refl
up_to_none (suc n) bs e = cond-false _ _ _ e

pub up_to_more : (n : ℕ) (bs : List ℕ) → whole bs ≡ true → up_to (suc n) bs ≡ front bs ∷ up_to n (drop (front_size bs) bs)
unfolding up_to
up_to_more n bs e = cond-true _ _ _ e

-- as many turns as there are bytes are enough
enough : (n m : ℕ) (bs : List ℕ) (b : Bool) → whole bs ≡ b → length bs ≤ n → length bs ≤ m → up_to n bs ≡ up_to m bs
enough n m bs false e h k = up_to_none n bs e ∙ sym (up_to_none m bs e)
enough zero m bs true e h k = absurd (omega (arith, leb-true _ _ e))
enough (suc n) zero bs true e h k = absurd (omega (arith, leb-true _ _ e))
enough (suc n) (suc m) bs true e h k =
    let rest = drop (front_size bs) bs in
    let l = length-drop (front_size bs) bs in
    up_to_more n bs e ∙ ap (λ rs. front bs ∷ rs) (enough n m rest (whole rest) refl (omega arith) (omega arith)) ∙ sym (up_to_more m bs e)

pub records_more : (bs : List ℕ) → whole bs ≡ true → records bs ≡ front bs ∷ records (drop (front_size bs) bs)
records_more bs e =
    let rest = drop (front_size bs) bs in
    let h = leb-true _ _ e in
    let l = length-drop (front_size bs) bs in
    let k : length bs ≡ suc (length bs - 1) = omega arith in
    ap (λ n. up_to n bs) k ∙ up_to_more (length bs - 1) bs e
    ∙ ap (λ rs. front bs ∷ rs) (enough (length bs - 1) (length rest) rest (whole rest) refl (omega arith) (omega arith))

pub size_front : (bs : List ℕ) → whole bs ≡ true → size_of (front bs) ≡ front_size bs
size_front bs e =
    let h = leb-true _ _ e in
    omega (arith, length-take-le (two bs 4) (drop 6 bs) (omega (arith, length-drop 6 bs)))

-- records take no more bytes than there are
up_to_inside : (n : ℕ) (bs : List ℕ) (b : Bool) → whole bs ≡ b → extent (up_to n bs) ≤ length bs
unfolding up_to
up_to_inside n bs false e = omega (arith, ap extent (up_to_none n bs e))
up_to_inside zero bs true e = omega arith
up_to_inside (suc n) bs true e =
    let rest = drop (front_size bs) bs in
    omega (arith, ap extent (up_to_more n bs e), sum_by-cons size_of (front bs) (up_to n rest), size_front bs e, up_to_inside n rest (whole rest) refl, length-drop (front_size bs) bs, leb-true _ _ e)

pub records_inside : (bs : List ℕ) → extent (records bs) ≤ length bs
records_inside bs = up_to_inside (length bs) bs (whole bs) refl

-- where the record after some others stands: their number and their bytes further on
pub number_behind : (p : RecordPosition) (rs : List Record) → (fold behind p rs).number ≡ p.number + length rs
number_behind p [] = omega arith
number_behind p (r ∷ rs) = omega (arith, number_behind (behind p r) rs)

pub place_behind : (p : RecordPosition) (rs : List Record) → (fold behind p rs).place ≡ fold (λ n r. n + size_of r) p.place rs
place_behind p [] = refl
place_behind p (r ∷ rs) = place_behind (behind p r) rs

-- records with their positions
pub placed_none : (p : RecordPosition) (bs : List ℕ) → whole bs ≡ false → placed p (records bs) ≡ []
placed_none p bs e = ap (placed p) (up_to_none (length bs) bs e)

module _ (p : RecordPosition) (bs rest : List ℕ) (r : Record) (e : whole bs ≡ true) (f : r ≡ front bs) (g : rest ≡ drop (front_size bs) bs) where
  pub placed_more : placed p (records bs) ≡ (p, r) ∷ placed (behind p r) (records rest)
  placed_more = ap (placed p) (records_more bs e ∙ (λ i. sym f i ∷ records (sym g i)))

  pub fewer_placed : length (placed (behind p r) (records rest)) < length (placed p (records bs))
  fewer_placed = omega (arith, ap length placed_more)

pub placed_records : (p : RecordPosition) (rs : List Record) → map (λ x. x.1) (placed p rs) ≡ rs
placed_records p [] = refl
placed_records p (r ∷ rs) = ap (λ xs. r ∷ xs) (placed_records (behind p r) rs)

length_placed : (p : RecordPosition) (rs : List Record) → length (placed p rs) ≡ length rs
length_placed p [] = refl
length_placed p (r ∷ rs) = omega (arith, length_placed (behind p r) rs)

pub few_placed : (p : RecordPosition) (bs : List ℕ) → 6 * length (placed p (records bs)) ≤ length bs
few_placed p bs = omega (arith, length_placed p (records bs), six_each (records bs), records_inside bs)
