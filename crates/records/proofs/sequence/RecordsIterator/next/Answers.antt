use Rattle.records.specs.Placing.{seen}
use Rattle.records.proofs.Reading.{placed_more, fewer_placed}
use Rattle.records.proofs.sequence.RecordsIterator.next.Goals as goal

pub returns-clause-steps : goal.returns-clause-steps
returns-clause-steps c =
    let s = c.args.self.now in
    let e = c.in_ok-record.ensures in
    placed_more s.position s.rest.now _ (seen c.in_ok-record.record) e.0 e.1 e.2

pub returns-clause-goes : goal.returns-clause-goes
returns-clause-goes c =
    let s = c.args.self.now in
    let e = c.in_ok-record.ensures in
    record { on = λ _. (tt, tt, fewer_placed s.position s.rest.now _ (seen c.in_ok-record.record) e.0 e.1 e.2); keeps = tt; rests = λ _. tt }
