-- What a capture has written.
use Rattle.std.proofs.Common.{◌≡◌, ℕ, ◌+◌, ◌<◌, ◌≤◌, List, [], ◌∷◌, ◌++◌, length, take, Some, None, Ok, Err, sym, refl, ap, ◌∙◌, subst, arith}
use Rattle.std.proofs.lemmas.List.Edits.{take-paste}
use Rattle.std.proofs.ByRecursion.{All-append}
use Rattle.std.proofs.lemmas.List.{length_push, take_all, flat_map_more}
use Rattle.std.proofs.lemmas.List.Sums.{sum_by_push}
use Rattle.std.proofs.lemmas.Bool.{or_parts, ltb-false}
use Rattle.std.specs.List.{flat_map, AllByRecursion}
use Rattle.faults.specs.Outcomes.{changed}
use Rattle.faults.proofs.Outcomes.{was_ok, was_err, none_refused}
use Rattle.reels.specs.declared.full.ReelFull.{ReelFull}
use Rattle.reels.specs.declared.plan.ReelPlan.{ReelPlan}
use Rattle.reels.specs.declared.reel.ClosedReel.{ClosedReel}
use Rattle.reels.specs.declared.reel.OpenReel.{OpenReel}
use Rattle.reels.specs.Captures.{Capture, opens, moves, appends, refuses}
use Rattle.reels.specs.Full.{too_long, full_refusal}
use Rattle.reels.specs.Plans.{event_of, sfc_of, dimension_of}
use Rattle.reels.specs.Records.{Record, Fits, record_bytes, size_of, extent}
use Rattle.reels.specs.declared.trailer.Trailer.{Trailer}
use Rattle.reels.specs.Trailers.{trailer_bytes, trailer_of, reel_bytes}
use Rattle.reels.specs.Writing.{Open, view, grown, written, Appends, Closed}
use Rattle.reels.proofs.Records.{length_record, last_place_push}

-- records and a trailer that are not refused fit
pub record Room (n room : ℕ) : Type 0 where
  pub inside : n + 12 ≤ room
  pub most : n + 12 ≤ 65536

pub has_room : (n room : ℕ) → full_refusal n room ≡ None → Room n room
has_room n room e =
    let b = or_parts _ _ (none_refused (too_long n room) (record {}) None e).0 in
    record { inside = ltb-false _ _ b.0; most = ltb-false _ _ b.1 }

-- bytes up to the end of a part that was written there
take_written : (bytes part : List ℕ) (at n : ℕ) → n ≡ at + length part → at ≤ length bytes → take n (written bytes at part) ≡ take at bytes ++ part
take_written bytes part at n e h =
    ap (λ k. take k (written bytes at part)) e ∙ take-paste bytes at part (length part) h (omega arith) ∙ ap (λ x. take at bytes ++ x) (take_all (length part) part (omega arith))

pub length_trailer : (t : Trailer) → length (trailer_bytes t) ≡ 12
unfolding trailer_bytes
length_trailer t = refl

module _ (p : ReelPlan) where
  -- an open reel whose bytes begin with these records
  pub record Holds (o : Open) (bytes : List ℕ) (rs : List Record) : Type 0 where
    pub records : take o.used bytes ≡ flat_map record_bytes rs
    pub used : o.used ≡ extent rs
    pub trailer : o.trailer ≡ trailer_of (event_of p) (sfc_of p) (dimension_of p) rs
    pub fit : AllByRecursion Fits rs

  module _ (o : Open) (bytes : List ℕ) (rs : List Record) (h : Holds o bytes rs) (r : Record) where
    grows : r.cycle < 4294967296 → Room (o.used + size_of r) (length bytes) → Holds (grown o r) (written bytes o.used (record_bytes r)) (rs ++ r ∷ [])
    grows c m = record {
      records = take_written bytes (record_bytes r) o.used _ (ap (λ k. o.used + k) (sym (length_record r))) (omega (arith, m.inside))
          ∙ ap (λ x. x ++ record_bytes r) h.records ∙ flat_map_more record_bytes [] rs r;
      used = ap (λ k. k + size_of r) h.used ∙ sym (sum_by_push size_of rs r);
      trailer = λ i. record {
        last = (ap Some h.used ∙ sym (last_place_push rs r)) i;
        count = (ap (λ t. t.count + 1) h.trailer ∙ sym (length_push rs r)) i;
        event = (h.trailer i).event;
        sfc = (h.trailer i).sfc;
        dimension = (h.trailer i).dimension;
      };
      fit = All-append Fits rs (r ∷ []) h.fit (record { cycle = c; length = omega (arith, m.most) }, tt);
    }

    module _ (o' : Open) (bytes' : List ℕ) where
      appended : r.cycle < 4294967296 → Appends o r bytes (Ok tt) bytes' o' → Holds o' bytes' (rs ++ r ∷ [])
      appended c a =
          let e = (was_ok (full_refusal (o.used + size_of r) (length bytes)) tt tt a.answer).0 in
          let left = a.left ∙ ap (λ z. changed z bytes (written bytes o.used (record_bytes r))) e in
          let reel = a.reel ∙ ap (λ z. changed z o (grown o r)) e in
          subst (λ x. Holds x bytes' (rs ++ r ∷ [])) (sym reel) (subst (λ x. Holds (grown o r) x (rs ++ r ∷ [])) (sym left) (grows c (has_room _ _ e)))

      not_appended : (f : ReelFull) → Appends o r bytes (Err f) bytes' o' → Holds o' bytes' rs
      not_appended f a =
          let e = was_err (full_refusal (o.used + size_of r) (length bytes)) tt f a.answer in
          let left = a.left ∙ ap (λ z. changed z bytes (written bytes o.used (record_bytes r))) e in
          let reel = a.reel ∙ ap (λ z. changed z o (grown o r)) e in
          subst (λ x. Holds x bytes' rs) (sym reel) (subst (λ x. Holds o x rs) (sym left) h)

  pub holds : {o : Open} {bytes : List ℕ} {rs : List Record} → Capture p o bytes rs → Holds o bytes rs
  holds (opens bytes) = record { records = refl; used = refl; trailer = refl; fit = tt }
  holds (moves bytes' k e) = let h = holds k in record { records = e ∙ h.records; used = h.used; trailer = h.trailer; fit = h.fit }
  holds (appends {o} {o'} {bytes} {bytes'} {rs} r k c a) = appended o bytes rs (holds k) r o' bytes' c a
  holds (refuses {o} {o'} {bytes} {bytes'} {rs} r f k a) = not_appended o bytes rs (holds k) r o' bytes' f a

  -- what a closed capture leaves is the reel of its records
  pub closed_reel : (o : OpenReel) (bytes bytes' : List ℕ) (rs : List Record) (c : ClosedReel) → Holds (view o) bytes rs → Closed o bytes bytes' c
      → take c.length bytes' ≡ reel_bytes (event_of p) (sfc_of p) (dimension_of p) rs
  closed_reel o bytes bytes' rs c h k =
      let t = trailer_bytes o.trailer in
      let m = has_room o.used (length bytes) k.fits in
      ap (take c.length) k.left ∙ take_written bytes t o.used c.length (k.length ∙ ap (λ n. o.used + n) (sym (length_trailer o.trailer))) (omega (arith, m.inside))
      ∙ (λ i. h.records i ++ trailer_bytes (h.trailer i))
