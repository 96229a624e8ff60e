use Rattle.std.proofs.Common.{ap, arith}
use Rattle.reels.specs.Records.{extent}
use Rattle.records.specs.Placing.{as_placed, records_left}
use Rattle.records.specs.Reading.{records}
use Rattle.records.proofs.Reading.{placed_records, records_inside}
use Rattle.records.proofs.Walking.{passed_none, passed_more, passed_inside, passed_few, passed_all}
use Rattle.records.proofs.walk.walk_over.Goals as goal

pub loop-record-init : goal.loop-record-init
loop-record-init c = rw c.into_iter-record-iterator.ensures.into_iter_gives (tt, tt, passed_none _)

pub pass-requires : goal.pass-requires
pass-requires c =
    let it = c.args.records in
    let w = c.loop-record.walk in
    let p = c.loop-record.invariant.2 in
    let inside = passed_inside (records_left it) w _ p (as_placed (c.in-Some.field-0-0, c.in-Some.record)) _ c.in-Some.ensures.steps in
    let near = ap extent (placed_records it.position (records it.rest.now)) in
    let most = records_inside it.rest.now in
    record { near = omega (arith, inside, near, most); few = omega (arith, inside, near, most, passed_few (records_left it) w _ p) }

pub loop-record-preserved : goal.loop-record-preserved
loop-record-preserved c =
    let all = records_left c.args.records in
    let more = passed_more all c.loop-record.walk _ c.loop-record.invariant.2 (as_placed (c.in-Some.field-0-0, c.in-Some.record)) _ c.in-Some.ensures.steps in
    (tt, tt, rw c.pass.ensures more)

pub returns : goal.returns
returns c = passed_all (records_left c.args.records) c.loop-record.walk _ c.loop-record.invariant.2 c.in-None.ensures.steps.0
