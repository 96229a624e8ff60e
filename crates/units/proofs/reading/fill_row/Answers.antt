use Rattle.std.proofs.Common.{◌≡◌, ◌*◌, [], ◌∷◌, ◌++◌, drop, ap, ◌∙◌, arith}
use Rattle.std.proofs.lemmas.List.{drop_all, append-nil}
use Rattle.units.proofs.Rows.{reached_more, reached_refused, reached_all, over_more}
use Rattle.units.proofs.reading.fill_row.Goals as goal

pub returns-in_default : goal.returns-in_default
returns-in_default g c us e =
    let r = c.loop-slot.invariant in
    let f = reached_refused _ g.K.Kind.heard _ _ _ _ r.0 _ r.1 c.loop-slot-test.true c.in_default.ensures in
    cc

pub loop-slot-preserved : goal.loop-slot-preserved
loop-slot-preserved g c =
    let r = c.loop-slot.invariant in
    let u = c.in-Ok.unit in (
      r.0 ++ u ∷ [],
      reached_more _ g.K.Kind.heard _ _ _ (4 * c.size.result) _ r.0 u (ap (λ k. 4 * k) c.size.ensures.same) r.1 c.loop-slot-test.true c.in-Ok.ensures,
      over_more c.args.list.now c.loop-slot.slot-items r.0 c.loop-slot.slot-index u c.loop-slot-test.true r.1.0 r.2,
    )

pub returns : goal.returns
returns g c us e =
    let r = c.loop-slot.invariant in
    let i = c.loop-slot.slot-index in
    let f = reached_all _ g.K.Kind.heard _ _ _ _ r.0 r.1 (omega arith) in
    let same : r.0 ≡ us = cc in
    let all : drop i c.args.list.now ≡ [] = drop_all i c.args.list.now (omega arith) in
    r.2 ∙ (λ j. same j ++ all j) ∙ append-nil us
