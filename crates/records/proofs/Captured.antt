-- What was captured is what the check finds.
use Rattle.std.proofs.Common.{◌≡◌, ℕ, ◌+◌, ◌*◌, ◌/◌, ◌%◌, ◌<◌, ◌≤◌, true, eqb, ltb, List, [], ◌∷◌, ◌++◌, length, take, drop, Some, None, Option, sym, refl, ap, ◌∙◌, subst, arith}
use Rattle.std.proofs.lemmas.List.{length-append, take_at, drop_at}
use Rattle.std.proofs.lemmas.List.Sums.{sum_by-take-le}
use Rattle.std.proofs.lemmas.Bool.{cond-false, le-ltb, le-leb, eq-eqb, ne_eqb, or_from, or_parts, ltb-false, not_from_true}
use Rattle.std.specs.List.{flat_map, AllByRecursion}
use Rattle.std.specs.Option.{option_eq, option_or}
use Rattle.faults.specs.Outcomes.{answered}
use Rattle.faults.proofs.Outcomes.{none_refused}
use Rattle.plans.specs.declared.fault.PlanFault.TheVariants.{Rate, Dimension}
use Rattle.plans.specs.Planning.{bad_dimension, plan_refusal}
use Rattle.plans.proofs.Intervals.{dimension_most}
use Rattle.reels.specs.declared.plan.ReelPlan.{ReelPlan}
use Rattle.reels.specs.declared.plan.ReelPlan.TheVariants.{Am824, Pack}
use Rattle.reels.specs.Bytes.{two}
use Rattle.reels.specs.Captures.{Planned}
use Rattle.reels.specs.Plans.{event_of, sfc_of, dimension_of}
use Rattle.reels.specs.Records.{Record, Fits, record_bytes, size_of, extent, last_place, rising}
use Rattle.reels.specs.Trailers.{place_told, place_read, trailer_bytes, read_trailer, trailer_of, reel_bytes}
use Rattle.reels.proofs.Captures.{holds, closed_reel, has_room, length_trailer}
use Rattle.reels.proofs.Records.{length_record, length_records, six_each}
use Rattle.records.specs.Checking.{size_of_event, bad_length, plan_fault, trailer_place, trailer, reel_records, trailer_refusal, records_refusal, checked}
use Rattle.records.specs.Laws.{Found, CapturedIsFound}
use Rattle.records.specs.Reading.{front_size, whole, front, up_to, records}
use Rattle.records.proofs.Reading.{records_more}

-- numbers of two and four bytes, put together again
two_back : (x : ℕ) → x < 65536 → 256 * (x / 256 % 256) + x % 256 ≡ x
two_back x h = omega arith

four_back : (x : ℕ) → x < 4294967296 → 65536 * (256 * (x / 16777216 % 256) + x / 65536 % 256) + (256 * (x / 256 % 256) + x % 256) ≡ x
four_back x h =
    let a : x / 256 ≡ 256 * (x / 65536) + x / 256 % 256 = omega arith in
    let b : x / 65536 ≡ 256 * (x / 16777216) + x / 65536 % 256 = omega arith in
    let c : x / 16777216 % 256 ≡ x / 16777216 = omega arith in
    omega (arith, a, b, c)

-- the records of bytes that are nothing but records
pub records_back : (rs : List Record) → AllByRecursion Fits rs → records (flat_map record_bytes rs) ≡ rs
unfolding up_to
records_back [] tt = refl
records_back (r ∷ rs) (f, fs) =
    let rest = flat_map record_bytes rs in
    let bs = record_bytes r ++ rest in
    let n : two bs 4 ≡ length r.packet = two_back (length r.packet) f.length in
    let size : front_size bs ≡ length (record_bytes r) = ap (λ k. 6 + k) n ∙ sym (length_record r) in
    let there : whole bs ≡ true = le-leb _ _ (omega (arith, size, length-append (record_bytes r) rest)) in
    let first : front bs ≡ r = λ i. record {
      cycle = four_back r.cycle f.cycle i;
      packet = (ap (λ k. take k (r.packet ++ rest)) n ∙ take_at r.packet rest (length r.packet) refl) i;
    } in
    let after : drop (front_size bs) bs ≡ rest = drop_at (record_bytes r) rest (front_size bs) (sym size) in
    records_more bs there ∙ (λ i. first i ∷ records (after i)) ∙ ap (λ xs. r ∷ xs) (records_back rs fs)

-- the place of the last record, told and read
last_small : (rs : List Record) → extent rs < 4294967295 → place_told (last_place rs) < 4294967296
last_small [] h = omega arith
last_small (r ∷ rs) h = omega (arith, sum_by-take-le size_of (r ∷ rs) (length rs))

last_back : (rs : List Record) → extent rs < 4294967295 → place_read (place_told (last_place rs)) ≡ last_place rs
last_back [] h = refl
last_back (r ∷ rs) s =
    let k = extent (take (length rs) (r ∷ rs)) in
    let h : k ≡ 4294967295 → ⊥ = λ e. omega (arith, sum_by-take-le size_of (r ∷ rs) (length rs)) in
    cond-false (eqb k 4294967295) _ _ (ne_eqb k 4294967295 h)

same_place : (a : Option ℕ) → option_eq eqb a a ≡ true
same_place None = refl
same_place (Some x) = eq-eqb x x refl

module _ (event sfc dimension : ℕ) (rs : List Record) (fit : AllByRecursion Fits rs) (short : extent rs + 12 ≤ 65536) (typed : event ≤ 1)
    (planned : plan_refusal (size_of_event event) sfc dimension ≡ None) (small : dimension < 65536) where
  abbrev front_part : List ℕ
  front_part = flat_map record_bytes rs

  abbrev end_part : List ℕ
  end_part = trailer_bytes (trailer_of event sfc dimension rs)

  abbrev reel : List ℕ
  reel = reel_bytes event sfc dimension rs

  place : trailer_place reel ≡ extent rs
  place = omega (arith, length-append front_part end_part, length_records rs, length_trailer (trailer_of event sfc dimension rs))

  told : trailer reel ≡ trailer_of event sfc dimension rs
  unfolding trailer_bytes
  told =
      ap read_trailer (drop_at front_part end_part (trailer_place reel) (length_records rs ∙ sym place)) ∙ (λ i. record {
        last = (ap place_read (four_back (place_told (last_place rs)) (last_small rs (omega arith))) ∙ last_back rs (omega arith)) i;
        count = four_back (length rs) (omega (arith, six_each rs)) i;
        event = event;
        sfc = sfc;
        dimension = two_back dimension small i;
      })

  found : reel_records reel ≡ rs
  found = ap records (take_at front_part end_part (trailer_place reel) (length_records rs ∙ sym place)) ∙ records_back rs fit

  trailer_good : trailer_refusal reel ≡ None
  trailer_good =
      let n : length reel ≡ extent rs + 12 = omega (arith, length-append front_part end_part, length_records rs, length_trailer (trailer_of event sfc dimension rs)) in
      cond-false (bad_length reel) _ _ (or_from _ _ (le-ltb (length reel) 12 (omega arith)) (le-ltb 65536 (length reel) (omega arith)))
      ∙ cond-false _ _ _ (le-ltb 1 (trailer reel).event (omega (arith, ap (λ t. t.event) told)))
      ∙ ap (plan_fault (trailer_place reel)) (ap (λ t. plan_refusal (size_of_event t.event) t.sfc t.dimension) told ∙ planned)

  records_good : records_refusal reel ≡ None
  records_good =
      cond-false _ _ _ (le-ltb (extent (reel_records reel)) (trailer_place reel) (omega (arith, place, ap extent found)))
      ∙ cond-false _ _ _ (or_from _ _
      (not_from_true _ (ap (λ l. option_eq eqb l (last_place (reel_records reel))) (ap (λ t. t.last) told ∙ ap last_place (sym found)) ∙ same_place (last_place (reel_records reel))))
      (not_from_true _ (eq-eqb (trailer reel).count (length (reel_records reel)) (ap (λ t. t.count) told ∙ ap length (sym found)))))

  answer : checked reel ≡ answered None (record { count = length rs; rising = rising rs })
  answer = λ i. answered (option_or (trailer_good i) (records_good i)) (record { count = length (found i); rising = rising (found i) })

planned_small : (size sfc dimension : ℕ) → 1 ≤ size → plan_refusal size sfc dimension ≡ None → dimension < 65536
planned_small size sfc dimension h e =
    let a = none_refused (ltb 6 sfc) Rate _ e in
    let b = none_refused (bad_dimension size sfc dimension) Dimension None a.1 in
    omega (arith, dimension_most sfc dimension size h (ltb-false _ _ (or_parts _ _ b.0).1))

found_by : (p : ReelPlan) (rs : List Record) → AllByRecursion Fits rs → extent rs + 12 ≤ 65536 → Planned p → Found p rs (reel_bytes (event_of p) (sfc_of p) (dimension_of p) rs)
found_by (Am824 p) rs f s q =
    let small = planned_small 1 p.sfc p.dimension (omega arith) q in
    record { bytes = refl; answer = answer 0 p.sfc p.dimension rs f s (omega arith) q small; records = found 0 p.sfc p.dimension rs f s (omega arith) q small; trailer = told 0 p.sfc p.dimension rs f s (omega arith) q small }
found_by (Pack p) rs f s q =
    let small = planned_small 3 p.sfc p.dimension (omega arith) q in
    record { bytes = refl; answer = answer 1 p.sfc p.dimension rs f s (omega arith) q small; records = found 1 p.sfc p.dimension rs f s (omega arith) q small; trailer = told 1 p.sfc p.dimension rs f s (omega arith) q small }

pub captured_is_found : CapturedIsFound
captured_is_found p o c bytes bytes' rs q k l =
    let h = holds p k in
    let m = has_room o.used (length bytes) l.fits in
    subst (Found p rs) (sym (closed_reel p o bytes bytes' rs c h l)) (found_by p rs h.fit (omega (arith, h.used, m.most)) q)
