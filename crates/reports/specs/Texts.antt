-- The line that a price list quotes.
use Rattle.std.specs.Prelude.{ℕ, List, ◌++◌, Ok, Err, codes, decimal, Result}
use Rattle.faults.specs.Refusals.{text as refusal_text}
use Rattle.records.specs.declared.fault.ReelFault.{ReelFault}
use Rattle.records.specs.Faults.{told}
use Rattle.reports.specs.declared.report.Report.{Report}
use Rattle.reports.specs.Grades.{name}

-- "heard 7 missed 3 gaps 1 widest 3 refused 0 grade marked"
abbrev pub report_text : Report → List ℕ
report_text r =
    codes "heard " ++ (decimal r.heard ++ (codes " missed " ++ (decimal r.missed ++ (codes " gaps " ++ (decimal r.gaps
    ++ (codes " widest " ++ (decimal r.widest ++ (codes " refused " ++ (decimal r.refused ++ (codes " grade " ++ name r.grade))))))))))

-- "reel refused 18 at 0", and a line feed after either
abbrev pub line : Result Report ReelFault → List ℕ
line (Ok report) = report_text report ++ codes "\n"
line (Err fault) = codes "reel " ++ (refusal_text (told fault) ++ codes "\n")
