-- The figures of a run, by the answers to its records.
use Rattle.std.specs.Prelude.{ℕ, ◌+◌, max, cond, ltb, List, [], ◌∷◌, is_err, Some, None, Ok, Err, fold, sum_by, count_by, Option, Result, nat_lt}
use Rattle.std.specs.Option.{option_or}
use Rattle.faults.specs.declared.records.RecordFault.{RecordFault}
use Rattle.listeners.specs.declared.heard.Heard.{Heard}
use Rattle.reports.specs.declared.report.Report.{Report}
use Rattle.reports.specs.Grades.{grade_of}
use Rattle.grading.specs.declared.tally.Tally.{Tally}

abbrev pub Answer : Type 0
Answer = Result Heard RecordFault

-- the blocks that an answer brought, and those that it named missing
abbrev pub blocks_in : Answer → ℕ
blocks_in (Ok h) = h.blocks
blocks_in (Err f) = 0

abbrev pub gap_in : Answer → ℕ
gap_in (Ok h) = h.gap
gap_in (Err f) = 0

-- the first refusal
abbrev pub first_refused : List Answer → Option RecordFault
first_refused [] = None
first_refused (Ok h ∷ xs) = first_refused xs
first_refused (Err f ∷ xs) = Some f

-- the gaps above 0, the widest of them or 0, and the refusals
abbrev pub tally_of : List Answer → Tally
tally_of xs = record {
  gaps = count_by (λ a. ltb 0 (gap_in a)) xs;
  widest = fold (λ widest a. max widest (gap_in a)) 0 xs;
  refused = count_by is_err xs;
  first = first_refused xs;
}

-- one answer more
abbrev pub counted : Tally → Answer → Tally
counted t (Ok h) = record { gaps = t.gaps + cond (nat_lt 0 h.gap) 1 0; widest = max t.widest h.gap; refused = t.refused; first = t.first }
counted t (Err f) = record { gaps = t.gaps; widest = t.widest; refused = t.refused + 1; first = option_or t.first (Some f) }

-- the report of these figures at an interval
abbrev pub reported : ℕ → ℕ → ℕ → Tally → Report
reported interval heard missed t = record {
  heard = heard;
  missed = missed;
  gaps = t.gaps;
  widest = t.widest;
  refused = t.refused;
  first = t.first;
  grade = grade_of missed t.refused t.widest interval;
}

-- the report of a run: what its answers add up to
abbrev pub report_of : ℕ → List Answer → Report
report_of interval xs = reported interval (sum_by blocks_in xs) (sum_by gap_in xs) (tally_of xs)
