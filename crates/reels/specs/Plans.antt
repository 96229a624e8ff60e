-- What a reel's trailer says of its plan.
use Rattle.std.specs.Prelude.{ℕ}
use Rattle.reels.specs.declared.plan.ReelPlan.{ReelPlan}
use Rattle.reels.specs.declared.plan.ReelPlan.TheVariants.{Am824, Pack}

abbrev pub event_of : ReelPlan → ℕ
event_of (Am824 p) = 0
event_of (Pack p) = 1

abbrev pub sfc_of : ReelPlan → ℕ
sfc_of (Am824 p) = p.sfc
sfc_of (Pack p) = p.sfc

abbrev pub dimension_of : ReelPlan → ℕ
dimension_of (Am824 p) = p.dimension
dimension_of (Pack p) = p.dimension
