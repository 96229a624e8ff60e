use Rattle.std.proofs.Common.{◌≡◌, ◌+◌, ◌*◌, ◌≤◌, false, length, sym, refl, ap, ◌∙◌, arith, rules}
use Rattle.std.proofs.lemmas.Nat.{mul-le}
use Rattle.std.proofs.lemmas.Result.{err_from_is_err_and}
use Rattle.std.proofs.lemmas.Bool.{cond-true}
use Rattle.clock.specs.Cycles.{not_later}
use Rattle.plans.proofs.Intervals.{interval_most}
use Rattle.talkers.specs.Sending.{bad_score}
use Rattle.talkers.specs.Views.{desk, state, score_of}
use Rattle.talkers.proofs.Laying.{no_room, room_there}
use Rattle.talkers.proofs.Sending.{units_there, good, sends_no_room, sends_packet}
use Rattle.talkers.proofs.talker.Talker.send.Goals as goal

pub units_of-requires : goal.units_of-requires
units_of-requires g c =
    let t = c.args.self.now in
    let xs = c.args.score.arrivals.now in
    let us = c.args.score.units.now in
    let d = desk g.M.Method.takes t in
    let score : bad_score d (score_of xs us) (state t) ≡ false = sym c.bad_score.ensures ∙ c.if-bad_score.false in
    units_there t.plan.dimension t.place c.blocks_taken-blocks.result (length xs) (length us) c.blocks_taken-blocks.ensures.inside (good d (score_of xs us) (state t) c.args.cycle score).fit

pub overflow_cast-result : goal.overflow_cast-result
overflow_cast-result g c =
    let few : c.blocks_taken-blocks.result ≤ 32 = omega (arith, c.blocks_taken-blocks.ensures.within, interval_most c.args.self.now.plan.sfc) in
    let most = mul-le c.block_bytes.result c.blocks_taken-blocks.result (4 * 1022 * 1022) 32 c.block_bytes.ensures.most few in
    let h : 8 + c.block_bytes.result * c.blocks_taken-blocks.result ≤ 133694216 = omega arith in
    search rules

pub returns-in_err-write_packet : goal.returns-in_err-write_packet
returns-in_err-write_packet g c =
    let t = c.args.self.now in
    let d = desk g.M.Method.takes t in
    let s = score_of c.args.score.arrivals.now c.args.score.units.now in
    let score : bad_score d s (state t) ≡ false = sym c.bad_score.ensures ∙ c.if-bad_score.false in
    let later : not_later c.args.cycle t.last ≡ false = sym c.not_later.ensures ∙ c.if-not_later.false in
    let taken = c.blocks_taken-blocks.ensures in
    let bytes = c.args.bytes.now in
    let room = no_room (8 + 4 * g.K.Kind.size * length c.units_of.result.now) bytes _ (sym c.write_packet.ensures.answer ∙ c.in_err-write_packet.was) in
    let kept : c.write_packet.new.bytes ≡ bytes = c.write_packet.ensures.bytes ∙ cond-true _ _ _ room.0 in
    let refused = sends_no_room d s (state t) c.args.cycle score later bytes c.blocks_taken-blocks.result c.units_of.result.now taken.value c.units_of.ensures taken.inside room.0 in
    let p = err_from_is_err_and c.from_residual.result c.from_residual.ensures.1 in
    rw (p.1, p.2, kept) (record { sends = refused; same = record { plan = refl; method = refl; sid = refl; delay = refl } })

pub returns : goal.returns
returns g c =
    let t = c.args.self.now in
    let d = desk g.M.Method.takes t in
    let s = score_of c.args.score.arrivals.now c.args.score.units.now in
    let score : bad_score d s (state t) ≡ false = sym c.bad_score.ensures ∙ c.if-bad_score.false in
    let later : not_later c.args.cycle t.last ≡ false = sym c.not_later.ensures ∙ c.if-not_later.false in
    let taken = c.blocks_taken-blocks.ensures in
    let n = c.blocks_taken-blocks.result in
    let bytes = c.args.bytes.now in
    let room = room_there (8 + 4 * g.K.Kind.size * length c.units_of.result.now) bytes (sym c.write_packet.ensures.answer ∙ c.in_ok-write_packet.was) in
    record {
      sends = sends_packet d s (state t) c.args.cycle score later bytes n c.units_of.result.now taken.value c.units_of.ensures taken.inside
          (8 + c.block_bytes.result * n) c.header-header.result c.write_packet.new.bytes (ap (λ m. 8 + m * n) c.block_bytes.ensures.value) c.header-header.ensures room c.write_packet.ensures.bytes;
      same = record { plan = refl; method = refl; sid = refl; delay = refl };
    }
