use Rattle.records.specs.Placing.{records_left}
use Rattle.records.proofs.Walking.{Passed}
use Rattle.records.proofs.walk.walk_over.Given as goal

abbrev pub invariant-loop-record : goal.invariant-loop-record
invariant-loop-record l =
    (goal.iterator-loop-record).can_next l.record-iterator ×
    (goal.iterator-loop-record).is_finite l.record-iterator ×
    Passed (records_left l.records) l.walk (records_left l.record-iterator)
