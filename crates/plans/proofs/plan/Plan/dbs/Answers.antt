use Rattle.std.proofs.Common.{rules}
use Rattle.plans.proofs.Intervals.{dbs_most}
use Rattle.plans.proofs.plan.Plan.dbs.Goals as goal

pub overflow_cast-result-3 : goal.overflow_cast-result-3
overflow_cast-result-3 g c = let p = c.args.self.now in let h = dbs_most p.sfc p.dimension g.K.Kind.size p.fits in search rules
