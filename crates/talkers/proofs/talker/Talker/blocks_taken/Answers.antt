use Rattle.std.proofs.Common.{◌≡◌, ◌≤◌, drop, sym, ◌∙◌, subst, arith, rules}
use Rattle.std.proofs.lemmas.List.{take_rest}
use Rattle.clock.specs.Ticks.{start}
use Rattle.plans.specs.Rates.{interval}
use Rattle.talkers.specs.Sending.{due}
use Rattle.talkers.proofs.Due.{taken_inside, taken_arrived}
use Rattle.talkers.proofs.talker.Talker.blocks_taken.Goals as goal

pub overflow_cast-due : goal.overflow_cast-due
overflow_cast-due g c =
    let place = c.args.self.now.place in
    let e = c.due_blocks-due.ensures ∙ (λ i. due (c.start.ensures i) (take_rest c.args.arrivals.now place i)) in
    let h = taken_inside c.args.arrivals.now place (start c.args.cycle) c.due_blocks-due.result c.requires.reached (omega (arith, e)) in
    let few : c.due_blocks-due.result ≤ 65536 = omega (arith, h, c.requires.few) in
    search rules

pub returns : goal.returns
returns g c =
    let xs = c.args.arrivals.now in
    let by = start c.args.cycle in
    let place = c.args.self.now.place in
    let i = interval c.args.self.now.plan.sfc in
    let w = due by (drop place xs) in
    let e = c.due_blocks-due.ensures ∙ (λ i. due (c.start.ensures i) (take_rest xs place i)) in
    let v : c.take.result ≡ g.M.Method.takes w i = c.take.ensures ∙ (λ j. g.M.Method.takes (e j) (c.interval.ensures j)) in
    let most : c.take.result ≤ w = subst (λ n. n ≤ w) (sym v) (g.met.M.Method.due w i) in
    record {
      value = v;
      inside = taken_inside xs place by c.take.result c.requires.reached most;
      within = subst (λ n. n ≤ i) (sym v) (g.met.M.Method.within w i);
      arrived = taken_arrived xs place by c.take.result c.requires.reached most;
    }
