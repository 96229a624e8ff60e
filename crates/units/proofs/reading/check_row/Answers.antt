use Rattle.std.proofs.Common.{◌*◌, [], ◌∷◌, ◌++◌, ap, ◌∙◌}
use Rattle.units.proofs.Rows.{read_located, reached_more}
use Rattle.units.proofs.reading.check_row.Goals as goal

pub loop-i-preserved : goal.loop-i-preserved
loop-i-preserved g c =
    let r = c.loop-i.invariant in
    let u = c.in_ok-at.field-0 in
    let e = read_located _ _ u c.in_ok-at.ensures ∙ c.read.ensures in
    (r.0 ++ u ∷ [], reached_more _ g.K.Kind.heard _ _ _ (4 * c.size.result) _ r.0 u (ap (λ k. 4 * k) c.size.ensures.same) r.1 c.loop-i-test.true e)
