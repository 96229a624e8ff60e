use Rattle.std.proofs.Common.{ℕ, List, Ok, Err, Result, refl}
use Rattle.std.proofs.lemmas.Result.{err_from_is_err_and}
use Rattle.faults.specs.declared.packets.PacketFault.{PacketFault}
use Rattle.talkers.specs.Sending.{Desk}
use Rattle.talkers.specs.Views.{state}
use Rattle.listeners.specs.declared.heard.Heard.{Heard}
use Rattle.listeners.specs.Hearing.{State as Listener, Hears}
use Rattle.streams.specs.Making.{three}
use Rattle.streams.specs.Relays.{heard_as}
use Rattle.streams.specs.Runs.{Three, Step}
use Rattle.streams.proofs.trio.Trio.relay.Goals as goal

-- a hearing by the first listener is a step, whatever it answers
hearing_steps : {U : Type 0} (d : Desk U) (v : Three) {cycle : ℕ} {packet : List ℕ} {list list' : List U} (r : Result Heard PacketFault) {l : Listener}
    → Hears d.stream cycle packet v.listener1 list r list' l
    → (which : ℕ) → Step d v (heard_as cycle list list' which packet r) (record { talker = v.talker; listener1 = l; listener2 = v.listener2 })
hearing_steps d v (Ok a) h which = (h, refl, refl)
hearing_steps d v (Err f) h which = (h, refl, refl)

pub returns-in_err-sent : goal.returns-in_err-sent
returns-in_err-sent g c =
    let p = err_from_is_err_and c.from_residual.result c.from_residual.ensures.1 in
    rw (p.1, p.2) (record {
      relays = record { sending = (c.in_err-sent.ensures.sends, refl, refl); list_left = refl };
      same = record { talker = c.send.ensures.same; first_plan = refl; second = refl };
    })

pub returns : goal.returns
returns g c =
    let v = three c.args.self.now in
    let between : Three = record { talker = state c.send.new.self; listener1 = v.listener1; listener2 = v.listener2 } in
    record {
      relays = record {
        between = between;
        sending = (c.in_ok-sent.ensures.sends, refl, refl);
        hearing = hearing_steps _ between c.hear-heard.result c.hear-heard.ensures.hears;
      };
      same = record { talker = c.send.ensures.same; first_plan = c.hear-heard.ensures.same; second = refl };
    }
