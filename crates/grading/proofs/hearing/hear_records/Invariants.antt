use Rattle.std.proofs.Common.{◌≡◌}
use Rattle.listeners.specs.Views.{state}
use Rattle.plans.specs.Streams.{stream}
use Rattle.records.specs.Placing.{records_left}
use Rattle.grading.proofs.Running.{Ran}
use Rattle.grading.proofs.hearing.hear_records.Given as goal

abbrev pub invariant-loop-position : goal.invariant-loop-position
invariant-loop-position g l =
    (l.listener.plan ≡ l.plan) ×
    Ran (stream l.plan) l.initial.list (records_left l.records) (record { state = state l.listener; list = l.list }) l.tally (records_left l.position-iterator)
