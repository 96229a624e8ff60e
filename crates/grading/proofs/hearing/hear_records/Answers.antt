use Rattle.std.proofs.Common.{length, ap, ◌∙◌, arith}
use Rattle.listeners.specs.Views.{state}
use Rattle.plans.specs.Streams.{stream, every}
use Rattle.records.specs.Placing.{seen, as_placed, records_left}
use Rattle.records.proofs.Reading.{few_placed}
use Rattle.grading.specs.Hearings.{Standing, of_record, answer, after}
use Rattle.grading.specs.Tallies.{counted, reported}
use Rattle.grading.proofs.Running.{ran_as, ran_few_gaps, ran_few_refused, ran_more, ran_report}
use Rattle.grading.proofs.hearing.hear_records.Goals as goal

pub count-requires : goal.count-requires
count-requires g c =
    let s = stream c.args.plan in
    let it = c.args.records in
    let all = records_left it in
    let r = c.loop-position.invariant.1 in
    let few = few_placed it.position it.rest.now in
    let left = ap length c.in-Some.ensures.steps in
    record {
      gaps = omega (arith, few, left, ran_few_gaps s c.args.list.now all _ c.loop-position.tally _ r);
      refused = omega (arith, few, left, ran_few_refused s c.args.list.now all _ c.loop-position.tally _ r);
    }

pub loop-position-preserved : goal.loop-position-preserved
loop-position-preserved g c =
    let s = stream c.args.plan in
    let l = c.loop-position in
    let t : Standing g.row.K-Unit.Denot = record { state = state l.listener; list = l.list } in
    let h = c.hear_record.ensures in
    let same = ap stream l.invariant.0 in
    let r = seen c.in-Some.record in
    let more = ran_more s c.args.list.now (records_left c.args.records) t l.tally _ l.invariant.1 (as_placed (c.in-Some.position, c.in-Some.record)) _ c.in-Some.ensures.steps in (
      h.same ∙ l.invariant.0,
      ran_as s c.args.list.now (records_left c.args.records)
          (h.left ∙ ap (λ z. after z t r) same)
          (c.count.ensures ∙ ap (counted l.tally) (h.answer ∙ ap (λ z. of_record c.in-Some.position (answer z t r)) same)) more,
    )

pub returns-clause-report : goal.returns-clause-report
returns-clause-report g c =
    let s = stream c.args.plan in
    let l = c.loop-position in
    c.report_of.ensures ∙ ap (λ n. reported n l.listener.heard l.listener.missed l.tally) c.interval.ensures
    ∙ ran_report s c.args.list.now (records_left c.args.records) _ l.tally _ l.invariant.1 c.in-None.ensures.steps.0 (every s)
