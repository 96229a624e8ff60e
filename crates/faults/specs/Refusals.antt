-- A refusal: its number, its place and its text.
use Rattle.std.specs.Prelude.{ℕ, List, ◌++◌, codes, decimal}
use Rattle.faults.specs.declared.refusals.Refusal.{Refusal}

abbrev pub refused : ℕ → ℕ → Refusal
refused number place = record { number = number; place = place }

-- "refused 15 at 1"
abbrev pub text : Refusal → List ℕ
text r = codes "refused " ++ (decimal r.number ++ (codes " at " ++ decimal r.place))
