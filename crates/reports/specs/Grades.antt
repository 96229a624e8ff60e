-- The grade of a run.
use Rattle.std.specs.Prelude.{ℕ, cond, List, codes, ◌==◌, nat_le, nat_lt}
use Rattle.reports.specs.declared.grade.Grade.{Grade}
use Rattle.reports.specs.declared.grade.Grade.TheVariants.{Clear, Doubtful, Marked, Worn}

-- the first that fits: nothing missed, a packet refused, no gap wider than the interval, any other
abbrev pub grade_of : ℕ → ℕ → ℕ → ℕ → Grade
grade_of missed refused widest interval =
    cond (missed == 0) Clear
    (cond (nat_lt 0 refused) Doubtful
    (cond (nat_le widest interval) Marked
    Worn))

abbrev pub name : Grade → List ℕ
name Clear = codes "clear"
name Doubtful = codes "doubtful"
name Marked = codes "marked"
name Worn = codes "worn"
