-- Records heard by a plan of either kind, into the list of its kind; the other list stays.
use Rattle.std.specs.Prelude.{List}
use Rattle.pack.specs.declared.unit.PackUnit.{PackUnit}
use Rattle.plans.specs.Streams.{stream}
use Rattle.quadlets.specs.declared.unit.Am824Unit.{Am824Unit}
use Rattle.reels.specs.declared.plan.ReelPlan.{ReelPlan}
use Rattle.reels.specs.declared.plan.ReelPlan.TheVariants.{Am824, Pack}
use Rattle.records.specs.Reading.{Placed}
use Rattle.reports.specs.declared.report.Report.{Report}
use Rattle.grading.specs.Grading.{report, left}

abbrev pub report_by : ReelPlan → Placed → List Am824Unit → List PackUnit → Report
report_by (Am824 p) xs quadlets packs = report (stream p) quadlets xs
report_by (Pack p) xs quadlets packs = report (stream p) packs xs

abbrev pub quadlets_by : ReelPlan → Placed → List Am824Unit → List Am824Unit
quadlets_by (Am824 p) xs quadlets = left (stream p) quadlets xs
quadlets_by (Pack p) xs quadlets = quadlets

abbrev pub packs_by : ReelPlan → Placed → List PackUnit → List PackUnit
packs_by (Am824 p) xs packs = packs
packs_by (Pack p) xs packs = left (stream p) packs xs
