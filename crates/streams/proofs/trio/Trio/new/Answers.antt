use Rattle.talkers.specs.Views.{desk}
use Rattle.streams.proofs.Accepted.{DeskLaws}
use Rattle.streams.proofs.Law.{law_from_the_making}
use Rattle.streams.proofs.One.{one_sending, one_hearing}
use Rattle.streams.proofs.trio.Trio.new.Goals as goal

pub returns : goal.returns
returns g c =
    let k = g.K.Kind in
    let l = g.met.K.Kind in
    let m = g.met.M.Method in
    let t = c.in_ok-talker.talker in
    let made = c.in_ok-talker.ensures in
    let a = c.new-2.ensures in
    let b = c.new-3.ensures in
    let d = desk g.M.Method.takes t in
    let ok : DeskLaws d = record {
      size_least = l.some;
      code_length = l.long;
      back = l.back;
      at_most_due = m.due;
      at_most_interval = m.within;
      moves = m.moves;
      sfc_most = t.plan.rated;
      dim_least = t.plan.some;
      event_most = l.typed;
      delay_most = t.soon;
    } in
    record {
      made = (
        made.0,
        record {
          talker_plan = made.1;
          first_plan = a.plan;
          second_plan = b.plan;
          talker_method = made.2;
          talker_sid = made.3;
          talker_delay = made.4;
          all_fresh = λ i. record { talker = record { place = made.5 i; last = made.6 i }; listener1 = a.nothing i; listener2 = b.nothing i };
        },
      );
      lawful = record { keeps_the_law = law_from_the_making d ok; one_sending = one_sending d; one_hearing = one_hearing d.stream };
    }
