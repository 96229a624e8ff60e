use Rattle.std.proofs.Common.{ℕ, ◌+◌, ◌*◌, ◌/◌, ◌≤◌, div-le_self, arith, rules}
use Rattle.std.proofs.lemmas.Nat.{mul-le}
use Rattle.listeners.proofs.listener.parts.position.Goals as goal

few : (s index : ℕ) → 1 ≤ s → 8 + 4 * s * index ≤ 4096 → index ≤ 4096
few s index h k = omega (arith, mul-le 1 index (4 * s) index (omega arith) (omega arith))

pub overflow_cast-result : goal.overflow_cast-result
overflow_cast-result g c =
    let h = few g.K.Kind.size c.args.index g.met.K.Kind.some c.requires.inside in
    let d : c.args.index / c.args.dimension ≤ c.args.index = div-le_self c.args.index c.args.dimension in
    let m : c.args.index / c.args.dimension ≤ 4096 = omega arith in
    search rules
