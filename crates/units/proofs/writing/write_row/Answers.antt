use Rattle.std.proofs.Common.{◌≡◌, ℕ, ◌+◌, ◌*◌, ◌/◌, ◌<◌, ◌≤◌, ◌++◌, length, take, drop, sym, ap, ◌∙◌, arith}
use Rattle.std.specs.List.{flat_map}
use Rattle.std.proofs.lemmas.List.{take_all}
use Rattle.units.specs.Rows.{row}
use Rattle.units.proofs.Rows.{row_joined}
use Rattle.units.proofs.Laying.{fits, fits_one, next_place, laid_more}
use Rattle.units.proofs.writing.write_row.Goals as goal

-- there is room for the unit at index i, where the division told that there is for all
room : (len q count i : ℕ) → 1 ≤ q → count ≤ len / (4 * q) → i < count → 4 * q * i + 4 * q ≤ len
room len q count i h k l = fits_one len (4 * q) count i (fits len (4 * q) count (omega arith) k) l

pub loop-i-preserved : goal.loop-i-preserved
loop-i-preserved g c =
    let m = g.K.Kind in
    let i = c.loop-i.i in
    let us = c.args.units.now in
    let e = c.size.ensures.same in
    let r = room (length c.args.out.now) c.size.result (length us) i c.size.ensures.some (omega arith) c.loop-i-test.true in
    let at : 4 * c.size.result * i ≡ 4 * m.size * i = ap (λ k. 4 * k * i) e in
    let next : 4 * c.size.result * i + 4 * m.size ≡ 4 * m.size * (i + 1) = omega (arith, next_place (4 * m.size) i) in
    laid_more m.code (4 * m.size) g.met.K.Kind.long c.args.out.now c.loop-i.out c.write.new.out us i (4 * c.size.result * i) c.index-units-i.result
    c.loop-i-test.true c.index-units-i.is at (omega arith) (c.loop-i.invariant ∙ ap (λ k. flat_map m.code (take i us) ++ drop k c.args.out.now) (sym at)) c.write.ensures.bytes
    ∙ ap (λ k. flat_map m.code (take (i + 1) us) ++ drop k c.args.out.now) next

pub returns-clause-back : goal.returns-clause-back
returns-clause-back g c =
    let m = g.K.Kind in
    let us = c.args.units.now in
    let out = c.args.out.now in
    let i = c.loop-i.i in
    let all : i ≡ length us = omega arith in
    let whole : take i us ≡ us = take_all i us (omega arith) in
    let wrote : c.loop-i.out ≡ flat_map m.code us ++ drop (4 * m.size * length us) out = c.loop-i.invariant ∙ (λ j. flat_map m.code (whole j) ++ drop (4 * m.size * all j) out) in
    ap (row (4 * m.size) m.heard (length us)) wrote ∙ row_joined (4 * m.size) m.heard m.code g.met.K.Kind.long g.met.K.Kind.back us (drop (4 * m.size * length us) out)
