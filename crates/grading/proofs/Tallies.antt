-- One answer more.
use Rattle.std.proofs.Common.{◌≡◌, ℕ, ◌≤◌, max, cond, ltb, List, [], ◌∷◌, ◌++◌, length, is_err, Some, Ok, Err, refl, ◌∙◌, add-zero}
use native.Mathlib.Nat.{max-zero}
use Rattle.std.proofs.lemmas.List.Sums.{sum_by_push, fold_push, count_by-le-length}
use Rattle.std.specs.Option.{option_or}
use Rattle.faults.specs.declared.records.RecordFault.{RecordFault}
use Rattle.listeners.specs.declared.heard.Heard.{Heard}
use Rattle.grading.specs.Tallies.{Answer, gap_in, first_refused, tally_of, counted}

first_heard : (xs : List Answer) (h : Heard) → first_refused (xs ++ Ok h ∷ []) ≡ first_refused xs
first_heard [] h = refl
first_heard (Ok x ∷ xs) h = first_heard xs h
first_heard (Err f ∷ xs) h = refl

first_refused_push : (xs : List Answer) (f : RecordFault) → first_refused (xs ++ Err f ∷ []) ≡ option_or (first_refused xs) (Some f)
first_refused_push [] f = refl
first_refused_push (Ok x ∷ xs) f = first_refused_push xs f
first_refused_push (Err g ∷ xs) f = refl

abbrev gap_counted : Answer → ℕ
gap_counted a = cond (ltb 0 (gap_in a)) 1 0

abbrev refusal_counted : Answer → ℕ
refusal_counted a = cond (is_err a) 1 0

abbrev wider : ℕ → Answer → ℕ
wider widest a = max widest (gap_in a)

pub tally_push : (xs : List Answer) (a : Answer) → tally_of (xs ++ a ∷ []) ≡ counted (tally_of xs) a
tally_push xs (Ok h) = λ i. record {
  gaps = sum_by_push gap_counted xs (Ok h) i;
  widest = fold_push wider 0 xs (Ok h) i;
  refused = (sum_by_push refusal_counted xs (Ok h) ∙ add-zero _) i;
  first = first_heard xs h i;
}
tally_push xs (Err f) = λ i. record {
  gaps = (sum_by_push gap_counted xs (Err f) ∙ add-zero _) i;
  widest = (fold_push wider 0 xs (Err f) ∙ max-zero _) i;
  refused = sum_by_push refusal_counted xs (Err f) i;
  first = first_refused_push xs f i;
}

-- there are no more of either than answers
pub few_gaps : (xs : List Answer) → (tally_of xs).gaps ≤ length xs
few_gaps xs = count_by-le-length (λ a. ltb 0 (gap_in a)) xs

pub few_refused : (xs : List Answer) → (tally_of xs).refused ≤ length xs
few_refused xs = count_by-le-length is_err xs
