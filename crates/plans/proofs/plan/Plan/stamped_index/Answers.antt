use Rattle.std.proofs.Common.{sym, ap, ◌∙◌, subst}
use Rattle.plans.specs.Rates.{interval}
use Rattle.plans.specs.Stamps.{stamped_index, FirstStamped}
use Rattle.plans.proofs.Intervals.{first_stamped}
use Rattle.plans.proofs.plan.Plan.stamped_index.Goals as goal

pub returns : goal.returns
returns g c =
    let sfc = c.args.self.now.sfc in
    let n = c.args.number in
    let e = c.index.ensures ∙ ap (λ i. stamped_index i n) c.interval.ensures in
    record { value = e; law = subst (FirstStamped (interval sfc) n) (sym e) (first_stamped sfc n) }
