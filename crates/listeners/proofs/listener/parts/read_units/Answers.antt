use Rattle.std.proofs.Common.{◌≡◌, ◌+◌, ◌*◌, ◌≤◌, length, Some, Err, sym, ap, ◌∙◌, subst, arith}
use Rattle.std.proofs.lemmas.List.{take_rest}
use Rattle.faults.specs.Packets.{carried}
use Rattle.plans.specs.Streams.{stream, unit_bytes}
use Rattle.units.proofs.Rows.{row_inside}
use Rattle.listeners.specs.Hearing.{position_of}
use Rattle.listeners.proofs.Reading.{unit_inside, read_ok, read_unit}
use Rattle.listeners.proofs.listener.parts.read_units.Goals as goal

pub refuse_unit-requires : goal.refuse_unit-requires
refuse_unit-requires g c =
    let p = c.args.plan.now in
    let packet = c.args.packet.now in
    let s = stream p in
    let at = c.in-Err-Unit.at in
    let n = c.dimension-dimension.result * c.args.blocks in
    let count : n ≡ p.dimension * c.args.blocks = ap (λ d. d * c.args.blocks) c.dimension-dimension.ensures in
    let r = read_unit s c.args.list.now c.read_row.new.list c.args.blocks packet n _ count (take_rest packet 8) at (sym (c.in-Err-Unit.is ∙ ap Err c.in-Err-Unit.field-0-is) ∙ c.read_row.ensures.answer) c.read_row.ensures.units in
    let index = row_inside (unit_bytes s) s.heard n _ at r.2 in
    record {
      some = omega (arith, p.some, c.dimension-dimension.ensures);
      inside = unit_inside (unit_bytes s) n at.position (length packet) index (subst (λ k. 8 + unit_bytes s * k ≤ length packet) (sym count) c.requires.whole) c.requires.short;
    }

pub returns-in-Ok : goal.returns-in-Ok
returns-in-Ok g c =
    let packet = c.args.packet.now in
    let count = ap (λ d. d * c.args.blocks) c.dimension-dimension.ensures in
    read_ok (stream c.args.plan.now) c.args.list.now c.read_row.new.list c.args.blocks packet _ _ count (take_rest packet 8) c.in-Ok.ensures.answer c.in-Ok.ensures.units

pub returns-in-Err-Unit : goal.returns-in-Err-Unit
returns-in-Err-Unit g c =
    let packet = c.args.packet.now in
    let s = stream c.args.plan.now in
    let at = c.in-Err-Unit.at in
    let count = ap (λ d. d * c.args.blocks) c.dimension-dimension.ensures in
    let r = read_unit s c.args.list.now c.read_row.new.list c.args.blocks packet _ _ count (take_rest packet 8) at (sym (c.in-Err-Unit.is ∙ ap Err c.in-Err-Unit.field-0-is) ∙ c.read_row.ensures.answer) c.read_row.ensures.units in
    let fault = ap (λ d. carried (record { position = position_of (unit_bytes s) d at.position; fault = at.fault })) c.dimension-dimension.ensures in
    rw c.refuse_unit.ensures (r.0 ∙ ap Some (sym fault), r.1)
