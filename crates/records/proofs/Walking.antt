-- A walk that passes one record more.
use Rattle.std.proofs.Common.{◌≡◌, ℕ, ◌+◌, ◌*◌, ◌≤◌, Bool, true, false, not, ◌&&◌, List, [], ◌∷◌, ◌++◌, map, Some, None, Option, sym, refl, ap, ◌∙◌, arith}
use Rattle.std.proofs.lemmas.List.{length_push, append_assoc, append-nil}
use Rattle.std.proofs.lemmas.List.Sums.{sum_by_push, sum_by-append, sum_by-cons, fold_push}
use Rattle.clock.specs.Cycles.{not_later}
use Rattle.faults.specs.declared.records.RecordPosition.{RecordPosition}
use Rattle.reels.specs.Records.{Record, size_of, extent, rises_after}
use Rattle.reels.proofs.Records.{last_place_push, six_each}
use Rattle.records.specs.declared.walk.Walk.{Walk}
use Rattle.records.specs.Reading.{Placed}
use Rattle.records.specs.Walking.{last_cycle, over, passed}

and_true : (a : Bool) → (a && true) ≡ (true && a)
and_true true = refl
and_true false = refl

and_assoc : (a b c : Bool) → (a && (b && c)) ≡ ((a && b) && c)
and_assoc true b c = refl
and_assoc false b c = refl

rises_push : (last : Option ℕ) (rs : List Record) (r : Record) → rises_after last (rs ++ r ∷ []) ≡ (rises_after last rs && not (not_later r.cycle (last_cycle last rs)))
rises_push last [] r = and_true (not (not_later r.cycle last))
rises_push last (x ∷ rs) r =
    ap (λ b. not (not_later x.cycle last) && b) (rises_push (Some x.cycle) rs r) ∙ and_assoc (not (not_later x.cycle last)) _ _

pub over_push : (rs : List Record) (r : Record) → over (rs ++ r ∷ []) ≡ passed (over rs) r
over_push rs r = λ i. record {
  at = sum_by_push size_of rs r i;
  count = length_push rs r i;
  last = last_place_push rs r i;
  cycle = fold_push (λ _ x. Some x.cycle) None rs r i;
  rising = rises_push None rs r i;
}

-- of all these records a walk has passed the first, and the last are left
abbrev pub records_of : Placed → List Record
records_of xs = map (λ x. x.1) xs

pub record Passed (all : Placed) (w : Walk) (left : Placed) : Type 0 where
  pub done : List Record
  pub walk : w ≡ over done
  pub rest : records_of all ≡ done ++ records_of left

module _ (all : Placed) where
  pub passed_none : Passed all (over []) all
  passed_none = record { done = []; walk = refl; rest = refl }

  module _ (w : Walk) (left : Placed) (p : Passed all w left) where
    pub passed_all : left ≡ [] → w ≡ over (records_of all)
    passed_all e = p.walk ∙ ap over (sym (p.rest ∙ ap (λ xs. p.done ++ records_of xs) e ∙ append-nil p.done))

    module _ (x : RecordPosition × Record) (more : Placed) (e : left ≡ x ∷ more) where
      pub passed_more : Passed all (passed w x.1) more
      passed_more = record {
        done = p.done ++ x.1 ∷ [];
        walk = ap (λ v. passed v x.1) p.walk ∙ sym (over_push p.done x.1);
        rest = p.rest ∙ ap (λ xs. p.done ++ records_of xs) e ∙ sym (append_assoc p.done (x.1 ∷ []) (records_of more));
      }

      pub passed_inside : w.at + size_of x.1 ≤ extent (records_of all)
      passed_inside =
          omega (arith, ap (λ v. v.at) p.walk, ap extent (p.rest ∙ ap (λ xs. p.done ++ records_of xs) e), sum_by-append size_of p.done (records_of (x ∷ more)), sum_by-cons size_of x.1 (records_of more))

    pub passed_few : 6 * w.count ≤ w.at
    passed_few = omega (arith, ap (λ v. v.at) p.walk, ap (λ v. v.count) p.walk, six_each p.done)
