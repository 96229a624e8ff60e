-- A send and a hearing have one result for one input.
use Rattle.std.proofs.Common.{sym, ◌∙◌}
use Rattle.plans.specs.Streams.{Stream}
use Rattle.talkers.specs.Sending.{Desk}
use Rattle.streams.specs.Making.{OneSending, OneHearing}

pub one_sending : {U : Type 0} (d : Desk U) → OneSending d
one_sending d s v c bytes r r' b b' t t' x y = record {
  answer = x.answer ∙ sym y.answer;
  bytes = x.left ∙ sym y.left;
  talker = x.state ∙ sym y.state;
}

pub one_hearing : {U : Type 0} (s : Stream U) → OneHearing s
one_hearing s c packet v list r r' b b' t t' x y = record {
  answer = x.answer ∙ sym y.answer;
  list = x.left ∙ sym y.left;
  listener = x.state ∙ sym y.state;
}
