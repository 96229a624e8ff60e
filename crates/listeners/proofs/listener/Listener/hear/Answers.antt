use Rattle.std.proofs.Common.{◌≡◌, ◌+◌, refl, ap, ◌∙◌, sym, arith}
use Rattle.std.proofs.lemmas.Result.{err_from_is_err_and}
use Rattle.plans.specs.Streams.{stream}
use Rattle.listeners.specs.declared.heard.Heard.{Heard}
use Rattle.listeners.specs.Views.{state}
use Rattle.listeners.proofs.Hearing.{before, short, few, whole, not_weighed, not_read, read}
use Rattle.listeners.proofs.listener.Listener.hear.Goals as goal

pub returns-in_err-heard : goal.returns-in_err-heard
returns-in_err-heard g c =
    let l = c.args.self.now in
    let p = err_from_is_err_and c.from_residual.result c.from_residual.ensures.1 in
    rw (p.1, p.2) (record { hears = not_weighed (stream l.plan) c.args.cycle c.args.packet.now (state l) c.args.list.now _ c.in_err-heard.ensures; same = refl })

pub read_units-requires : goal.read_units-requires
read_units-requires g c =
    let l = c.args.self.now in
    let w = c.in_ok-heard.ensures in
    record {
      whole = whole (stream l.plan) c.args.cycle c.args.packet.now (state l) _ w;
      short = short (stream l.plan) c.args.cycle c.args.packet.now (state l) _ w;
    }

pub returns-in_err-read_units : goal.returns-in_err-read_units
returns-in_err-read_units g c =
    let l = c.args.self.now in
    let p = err_from_is_err_and c.from_residual-in_err-read_units.result c.from_residual-in_err-read_units.ensures.1 in
    let e = c.in_err-read_units.ensures in
    rw (p.1, p.2, e.1) (record { hears = not_read (stream l.plan) c.args.cycle c.args.packet.now (state l) c.args.list.now _ c.in_ok-heard.ensures _ e.0; same = refl })

pub invariant_of-self : goal.invariant_of-self
invariant_of-self g c =
    let l = c.args.self.now in
    let h = c.in_ok-heard.heard in
    let w = c.in_ok-heard.ensures in
    let first : h.first ≡ l.next + h.gap = ap (λ (x : Heard). x.first) w.as_brought ∙ ap (λ (x : Heard). l.next + x.gap) (sym w.as_brought) in
    let blocks = few (stream l.plan) c.args.cycle c.args.packet.now (state l) h w in
    let cycles = before (stream l.plan) c.args.cycle c.args.packet.now (state l) h w in
    record { whole = omega (arith, l.whole); paced = omega (arith, l.paced); early = omega arith }

pub returns : goal.returns
returns g c =
    let l = c.args.self.now in
    record { hears = read (stream l.plan) c.args.cycle c.args.packet.now (state l) c.args.list.now _ c.in_ok-heard.ensures _ c.in_ok-read_units.ensures; same = refl }
