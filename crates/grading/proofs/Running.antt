-- A run over records, as far as it has come.
use Rattle.std.proofs.Common.{◌≡◌, ℕ, ◌+◌, ◌≤◌, List, [], ◌∷◌, ◌++◌, length, sum_by, sym, ap, ◌∙◌, zero-add, arith}
use Rattle.std.proofs.lemmas.List.{length-append, append_assoc, append-nil}
use Rattle.std.proofs.lemmas.List.Sums.{fold_push}
use Rattle.faults.specs.declared.records.RecordPosition.{RecordPosition}
use Rattle.plans.specs.Streams.{Stream}
use Rattle.records.specs.Reading.{Placed}
use Rattle.reels.specs.Records.{Record}
use Rattle.grading.specs.declared.tally.Tally.{Tally}
use Rattle.grading.specs.Hearings.{Standing, begun, of_record, answer, after, answers, after_all}
use Rattle.grading.specs.Tallies.{blocks_in, gap_in, tally_of, counted, reported, report_of}
use Rattle.grading.proofs.Hearings.{answers_push, length_answers, heard_sum, missed_sum}
use Rattle.grading.proofs.Tallies.{tally_push, few_gaps, few_refused}

module _ {U : Type 0} (s : Stream U) (list : List U) (all : Placed) where
  -- the answers to the first records
  abbrev pub so_far : Placed → Tally
  so_far done = tally_of (answers s (begun list) done)

  -- of all the records the first were heard, and the last are to come
  pub record Ran (t : Standing U) (tally : Tally) (rest : Placed) : Type 0 where
    pub done : Placed
    pub parts : all ≡ done ++ rest
    pub standing : t ≡ after_all s (begun list) done
    pub counts : tally ≡ so_far done

  pub ran_as : {t u : Standing U} {x y : Tally} {rest : Placed} → t ≡ u → x ≡ y → Ran u y rest → Ran t x rest
  ran_as a b r = record { done = r.done; parts = r.parts; standing = a ∙ r.standing; counts = b ∙ r.counts }

  module _ (t : Standing U) (tally : Tally) (rest : Placed) (r : Ran t tally rest) where
    few_answers : length (answers s (begun list) r.done) + length rest ≡ length all
    few_answers = omega (arith, ap length r.parts, length-append r.done rest, length_answers s (begun list) r.done)

    pub ran_few_gaps : tally.gaps + length rest ≤ length all
    ran_few_gaps = omega (arith, ap (λ x. x.gaps) r.counts, few_gaps (answers s (begun list) r.done), few_answers)

    pub ran_few_refused : tally.refused + length rest ≤ length all
    ran_few_refused = omega (arith, ap (λ x. x.refused) r.counts, few_refused (answers s (begun list) r.done), few_answers)

    pub ran_more : (x : RecordPosition × Record) (more : Placed) → rest ≡ x ∷ more → Ran (after s t x.1) (counted tally (of_record x.0 (answer s t x.1))) more
    ran_more x more e = record {
      done = r.done ++ x ∷ [];
      parts = r.parts ∙ ap (λ xs. r.done ++ xs) e ∙ sym (append_assoc r.done (x ∷ []) more);
      standing = ap (λ u. after s u x.1) r.standing ∙ sym (fold_push (λ u y. after s u y.1) (begun list) r.done x);
      counts = (λ i. counted (r.counts i) (of_record x.0 (answer s (r.standing i) x.1))) ∙ sym (tally_push (answers s (begun list) r.done) _) ∙ ap tally_of (sym (answers_push s (begun list) r.done x));
    }

    module _ (e : rest ≡ []) where
      heard : r.done ≡ all
      heard = sym (r.parts ∙ ap (λ xs. r.done ++ xs) e ∙ append-nil r.done)

      heard_all : t.state.heard ≡ sum_by blocks_in (answers s (begun list) all)
      heard_all = ap (λ u. u.state.heard) r.standing ∙ heard_sum s (begun list) r.done ∙ zero-add _ ∙ ap (λ xs. sum_by blocks_in (answers s (begun list) xs)) heard

      missed_all : t.state.missed ≡ sum_by gap_in (answers s (begun list) all)
      missed_all = ap (λ u. u.state.missed) r.standing ∙ missed_sum s (begun list) r.done ∙ zero-add _ ∙ ap (λ xs. sum_by gap_in (answers s (begun list) xs)) heard

      pub ran_report : (interval : ℕ) → reported interval t.state.heard t.state.missed tally ≡ report_of interval (answers s (begun list) all)
      ran_report interval = λ i. reported interval (heard_all i) (missed_all i) ((r.counts ∙ ap so_far heard) i)
