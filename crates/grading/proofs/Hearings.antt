-- Records heard in order, one record more.
use Rattle.std.proofs.Common.{◌≡◌, ℕ, ◌+◌, [], ◌∷◌, ◌++◌, length, Some, None, sum_by, Option, refl, ap, arith}
use Rattle.std.proofs.lemmas.List.Sums.{sum_by-cons}
use Rattle.faults.specs.declared.packets.PacketFault.{PacketFault}
use Rattle.faults.specs.declared.records.RecordPosition.{RecordPosition}
use Rattle.faults.specs.Outcomes.{answered, changed}
use Rattle.listeners.specs.declared.heard.Heard.{Heard}
use Rattle.listeners.specs.Hearing.{State}
use Rattle.plans.specs.Streams.{Stream}
use Rattle.records.specs.Reading.{Placed}
use Rattle.reels.specs.Records.{Record}
use Rattle.grading.specs.Hearings.{Standing, of_record, refusal, answer, after, answers, after_all}
use Rattle.grading.specs.Tallies.{Answer, blocks_in, gap_in}

module _ {U : Type 0} (s : Stream U) where
  pub answers_push : (t : Standing U) (xs : Placed) (x : RecordPosition × Record)
      → answers s t (xs ++ x ∷ []) ≡ answers s t xs ++ of_record x.0 (answer s (after_all s t xs) x.1) ∷ []
  answers_push t [] x = refl
  answers_push t (y ∷ xs) x = ap (λ zs. of_record y.0 (answer s t y.1) ∷ zs) (answers_push (after s t y.1) xs x)

  pub length_answers : (t : Standing U) (xs : Placed) → length (answers s t xs) ≡ length xs
  length_answers t [] = refl
  length_answers t (x ∷ xs) = omega (arith, length_answers (after s t x.1) xs)

  -- a number of the listener that each answer adds to is the sum over the answers
  module _ (f : State → ℕ) (g : Answer → ℕ)
      (step : (t : Standing U) (p : RecordPosition) (r : Record) → f (after s t r).state ≡ f t.state + g (of_record p (answer s t r))) where
    sums : (t : Standing U) (xs : Placed) → f (after_all s t xs).state ≡ f t.state + sum_by g (answers s t xs)
    sums t [] = omega arith
    sums t (x ∷ xs) =
        omega (arith, sums (after s t x.1) xs, step t x.0 x.1, sum_by-cons g (of_record x.0 (answer s t x.1)) (answers s (after s t x.1) xs))

  heard_step : (o : Option PacketFault) (p : RecordPosition) (t n : State) (b : Heard) → n.heard ≡ t.heard + b.blocks → (changed o t n).heard ≡ t.heard + blocks_in (of_record p (answered o b))
  heard_step None p t n b e = e
  heard_step (Some f) p t n b e = omega arith

  missed_step : (o : Option PacketFault) (p : RecordPosition) (t n : State) (b : Heard) → n.missed ≡ t.missed + b.gap → (changed o t n).missed ≡ t.missed + gap_in (of_record p (answered o b))
  missed_step None p t n b e = e
  missed_step (Some f) p t n b e = omega arith

  pub heard_sum : (t : Standing U) (xs : Placed) → (after_all s t xs).state.heard ≡ t.state.heard + sum_by blocks_in (answers s t xs)
  heard_sum = sums (λ t. t.heard) blocks_in (λ t p r. heard_step (refusal s t r) p _ _ _ refl)

  pub missed_sum : (t : Standing U) (xs : Placed) → (after_all s t xs).state.missed ≡ t.state.missed + sum_by gap_in (answers s t xs)
  missed_sum = sums (λ t. t.missed) gap_in (λ t p r. missed_step (refusal s t r) p _ _ _ refl)
