-- A reel that is accepted is the bytes of its records and of its trailer.
use Rattle.std.proofs.Common.{◌≡◌, ℕ, zero, suc, ◌+◌, ◌*◌, ◌/◌, ◌%◌, ◌<◌, ◌≤◌, Bool, true, false, not, ◌||◌, eqb, ltb, cond, List, [], ◌∷◌, ◌++◌, length, take, drop, IfOk, Some, None, Ok, Err, Option, Result, sym, refl, ap, ◌∙◌, subst, ⊎_elim, arith, lit<}
use Rattle.std.proofs.lemmas.List.{drop_more, drop_all, drop-drop, get_or-drop, get_or-take, get_or_past, length-drop, length-take, length-take-le, take-append-drop, append_assoc, append-nil}
use Rattle.std.proofs.lemmas.List.Sums.{sum_by-cons}
use Rattle.std.proofs.lemmas.Bool.{cases_lt, or_parts, not-false, eqb-true, ltb-false, leb-true}
use Rattle.std.specs.List.{flat_map}
use Rattle.std.specs.Option.{option_eq}
use Rattle.faults.proofs.Outcomes.{was_ok, none_refused, neither_refused}
use Rattle.reels.specs.Bytes.{bytes2, bytes4, byte, two, four}
use Rattle.reels.specs.Records.{record_bytes, size_of, extent, last_place}
use Rattle.reels.specs.Trailers.{place_told, trailer_bytes, read_trailer, trailer_of}
use Rattle.records.specs.declared.checked.Checked.{Checked}
use Rattle.records.specs.declared.fault.ReelFault.{ReelFault}
use Rattle.records.specs.Checking.{bad_length, trailer_place, trailer, reel_records, trailer_refusal, records_refusal, check_refusal, checked}
use Rattle.records.specs.Laws.{IsItsRecords}
use Rattle.records.specs.Reading.{front_size, whole, front, up_to, records}
use Rattle.records.proofs.Reading.{up_to_none, up_to_more, size_front}

-- every number of the list is a byte
abbrev pub Small : List ℕ → Type 0
Small bs = (i : ℕ) → byte bs i < 256

-- numbers of bytes, taken apart again
bytes2_two : (a b : ℕ) → a < 256 → b < 256 → bytes2 (256 * a + b) ≡ a ∷ b ∷ []
bytes2_two a b h k =
    let p : (256 * a + b) / 256 % 256 ≡ a = omega arith in
    let q : (256 * a + b) % 256 ≡ b = omega arith in
    λ i. p i ∷ q i ∷ []

bytes4_four : (a b c d : ℕ) → a < 256 → b < 256 → c < 256 → d < 256 → bytes4 (65536 * (256 * a + b) + (256 * c + d)) ≡ a ∷ b ∷ c ∷ d ∷ []
bytes4_four a b c d h k l m =
    let p : (65536 * (256 * a + b) + (256 * c + d)) / 16777216 % 256 ≡ a = omega arith in
    let q : (65536 * (256 * a + b) + (256 * c + d)) / 65536 % 256 ≡ b = omega arith in
    let r : (65536 * (256 * a + b) + (256 * c + d)) / 256 % 256 ≡ c = omega arith in
    let s : (65536 * (256 * a + b) + (256 * c + d)) % 256 ≡ d = omega arith in
    λ i. p i ∷ q i ∷ r i ∷ s i ∷ []

-- a list by its first elements
module _ (xs : List ℕ) where
  at_front : (n : ℕ) → n < length xs → drop n xs ≡ byte xs n ∷ drop (n + 1) xs
  at_front n h = drop_more xs n 0 h

  six : 6 ≤ length xs → xs ≡ byte xs 0 ∷ byte xs 1 ∷ byte xs 2 ∷ byte xs 3 ∷ byte xs 4 ∷ byte xs 5 ∷ drop 6 xs
  six h =
      at_front 0 (omega arith) ∙ ap (λ t. byte xs 0 ∷ t) (at_front 1 (omega arith) ∙ ap (λ t. byte xs 1 ∷ t) (at_front 2 (omega arith)
      ∙ ap (λ t. byte xs 2 ∷ t) (at_front 3 (omega arith) ∙ ap (λ t. byte xs 3 ∷ t) (at_front 4 (omega arith) ∙ ap (λ t. byte xs 4 ∷ t) (at_front 5 (omega arith))))))

  twelve : length xs ≡ 12 → xs ≡ byte xs 0 ∷ byte xs 1 ∷ byte xs 2 ∷ byte xs 3 ∷ byte xs 4 ∷ byte xs 5 ∷ byte xs 6 ∷ byte xs 7 ∷ byte xs 8 ∷ byte xs 9 ∷ byte xs 10 ∷ byte xs 11 ∷ []
  twelve h =
      six (omega arith) ∙ ap (λ t. byte xs 0 ∷ byte xs 1 ∷ byte xs 2 ∷ byte xs 3 ∷ byte xs 4 ∷ byte xs 5 ∷ t)
      (at_front 6 (omega arith) ∙ ap (λ t. byte xs 6 ∷ t) (at_front 7 (omega arith) ∙ ap (λ t. byte xs 7 ∷ t) (at_front 8 (omega arith)
      ∙ ap (λ t. byte xs 8 ∷ t) (at_front 9 (omega arith) ∙ ap (λ t. byte xs 9 ∷ t) (at_front 10 (omega arith) ∙ ap (λ t. byte xs 10 ∷ t) (at_front 11 (omega arith)
      ∙ ap (λ t. byte xs 11 ∷ t) (drop_all 12 xs (omega arith))))))))

-- the record at the front, and what is behind it
front_bytes : (bs : List ℕ) → Small bs → whole bs ≡ true → record_bytes (front bs) ++ drop (front_size bs) bs ≡ bs
front_bytes bs s e =
    let long = leb-true _ _ e in
    let n = two bs 4 in
    let len : length (take n (drop 6 bs)) ≡ n = length-take-le n (drop 6 bs) (omega (arith, length-drop 6 bs)) in
    let cycle = bytes4_four (byte bs 0) (byte bs 1) (byte bs 2) (byte bs 3) (s 0) (s 1) (s 2) (s 3) in
    let count = ap bytes2 len ∙ bytes2_two (byte bs 4) (byte bs 5) (s 4) (s 5) in
    (λ i. ((cycle i ++ count i) ++ take n (drop 6 bs)) ++ sym (drop-drop n 6 bs) i)
    ∙ ap (λ t. byte bs 0 ∷ byte bs 1 ∷ byte bs 2 ∷ byte bs 3 ∷ byte bs 4 ∷ byte bs 5 ∷ t) (take-append-drop n (drop 6 bs)) ∙ sym (six bs (omega arith))

small_drop : (n : ℕ) (bs : List ℕ) → Small bs → Small (drop n bs)
small_drop n bs s i = subst (λ k. k < 256) (sym (get_or-drop n bs i 0)) (s (n + i))

small_take : (n : ℕ) (bs : List ℕ) → Small bs → Small (take n bs)
small_take n bs s i =
    ⊎_elim (λ h. subst (λ k. k < 256) (sym (get_or-take n bs i 0 h)) (s i))
    (λ h. subst (λ k. k < 256) (sym (get_or_past (take n bs) i 0 (omega (arith, length-take n bs)))) (lit< tt)) (cases_lt i n)

up_to_bytes : (n : ℕ) (bs : List ℕ) (b : Bool) → whole bs ≡ b → Small bs → flat_map record_bytes (up_to n bs) ++ drop (extent (up_to n bs)) bs ≡ bs
unfolding up_to
up_to_bytes n bs false e s = ap (λ rs. flat_map record_bytes rs ++ drop (extent rs) bs) (up_to_none n bs e)
up_to_bytes zero bs true e s = refl
up_to_bytes (suc n) bs true e s =
    let rest = drop (front_size bs) bs in
    let more = up_to n rest in
    let far : drop (extent (front bs ∷ more)) bs ≡ drop (extent more) rest =
    ap (λ k. drop k bs) (sum_by-cons size_of (front bs) more ∙ ap (λ k. k + extent more) (size_front bs e)) ∙ sym (drop-drop (extent more) (front_size bs) bs) in
    ap (λ rs. flat_map record_bytes rs ++ drop (extent rs) bs) (up_to_more n bs e)
    ∙ ap (λ t. (record_bytes (front bs) ++ flat_map record_bytes more) ++ t) far ∙ append_assoc (record_bytes (front bs)) (flat_map record_bytes more) (drop (extent more) rest)
    ∙ ap (λ t. record_bytes (front bs) ++ t) (up_to_bytes n rest (whole rest) refl (small_drop (front_size bs) bs s)) ∙ front_bytes bs s e

-- where the records reach the end
records_bytes : (bs : List ℕ) → Small bs → length bs ≤ extent (records bs) → flat_map record_bytes (records bs) ≡ bs
records_bytes bs s h =
    sym (append-nil (flat_map record_bytes (records bs))) ∙ ap (λ t. flat_map record_bytes (records bs) ++ t) (sym (drop_all (extent (records bs)) bs h))
    ∙ up_to_bytes (length bs) bs (whole bs) refl s

-- a place that was read, told again
told_read : (n : ℕ) (b : Bool) → eqb n 4294967295 ≡ b → place_told (cond b None (Some n)) ≡ n
told_read n true e = sym (eqb-true _ _ e)
told_read n false e = refl

-- twelve bytes read as a trailer, and written again
trailer_bytes_back : (t : List ℕ) → length t ≡ 12 → Small t → trailer_bytes (read_trailer t) ≡ t
unfolding trailer_bytes
trailer_bytes_back t h s =
    (λ i. (ap bytes4 (told_read (four t 0) (eqb (four t 0) 4294967295) refl) ∙ bytes4_four (byte t 0) (byte t 1) (byte t 2) (byte t 3) (s 0) (s 1) (s 2) (s 3)) i
    ++ (bytes4_four (byte t 4) (byte t 5) (byte t 6) (byte t 7) (s 4) (s 5) (s 6) (s 7) i
    ++ (byte t 8 ∷ byte t 9 ∷ bytes2_two (byte t 10) (byte t 11) (s 10) (s 11) i)))
    ∙ sym (twelve t h)

same_places : (a b : Option ℕ) → option_eq eqb a b ≡ true → a ≡ b
same_places None None e = refl
same_places None (Some y) e = cc
same_places (Some x) None e = cc
same_places (Some x) (Some y) e = ap Some (eqb-true x y e)

module _ (reel : List ℕ) (s : Small reel) (e : check_refusal reel ≡ None) where
  refusals : (trailer_refusal reel ≡ None) × (records_refusal reel ≡ None)
  refusals = neither_refused (trailer_refusal reel) (records_refusal reel) e

  long : 12 ≤ length reel
  long = ltb-false _ _ (or_parts _ _ (none_refused (bad_length reel) _ _ refusals.0).0).0

  abbrev body : List ℕ
  body = take (trailer_place reel) reel

  abbrev end : List ℕ
  end = drop (trailer_place reel) reel

  length_body : length body ≡ trailer_place reel
  length_body = length-take-le (trailer_place reel) reel (omega arith)

  both : body ++ end ≡ reel
  both = take-append-drop (trailer_place reel) reel

  agreed : (trailer_place reel ≤ extent (reel_records reel)) × ((trailer reel).last ≡ last_place (reel_records reel)) × ((trailer reel).count ≡ length (reel_records reel))
  agreed =
      let reaches = none_refused (ltb (extent (reel_records reel)) (trailer_place reel)) _ _ refusals.1 in
      let tells = or_parts _ _ (none_refused (not (option_eq eqb (trailer reel).last (last_place (reel_records reel))) || not (eqb (trailer reel).count (length (reel_records reel)))) _ None reaches.1).0 in
      (ltb-false _ _ reaches.0, same_places _ _ (not-false _ tells.0), eqb-true _ _ (not-false _ tells.1))

  pub is_its_records : IsItsRecords reel
  is_its_records =
      let t = trailer reel in
      let told : trailer_of t.event t.sfc t.dimension (reel_records reel) ≡ t =
      λ i. record { last = sym agreed.1 i; count = sym agreed.2 i; event = t.event; sfc = t.sfc; dimension = t.dimension } in
      let front_part = records_bytes body (small_take (trailer_place reel) reel s) (omega (arith, length_body, agreed.0)) in
      let end_part = ap trailer_bytes told ∙ trailer_bytes_back end (omega (arith, length-drop (trailer_place reel) reel, long)) (small_drop (trailer_place reel) reel s) in
      sym ((λ i. front_part i ++ end_part i) ∙ both)

pub accepted_whole : (reel : List ℕ) → Small reel → (r : Result Checked ReelFault) → r ≡ checked reel → IfOk r (λ _. IsItsRecords reel)
accepted_whole reel s (Ok x) e = is_its_records reel s (was_ok (check_refusal reel) _ x e).0
accepted_whole reel s (Err f) e = tt
