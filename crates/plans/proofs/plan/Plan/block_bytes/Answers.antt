use Rattle.std.proofs.Common.{◌*◌, arith}
use Rattle.std.proofs.lemmas.Nat.{mul-le}
use Rattle.plans.proofs.Intervals.{dimension_most}
use Rattle.plans.proofs.plan.Plan.block_bytes.Goals as goal

pub returns : goal.returns
returns g c =
    let p = c.args.self.now in
    let n = 4 * c.size.result in
    record {
      value = λ i. 4 * c.size.ensures.same i * p.dimension;
      some = omega (arith, mul-le 4 1 n p.dimension (omega arith) p.some);
      most = mul-le n p.dimension (4 * 1022) 1022 (omega arith) (dimension_most p.sfc p.dimension g.K.Kind.size g.met.K.Kind.some p.fits);
    }
