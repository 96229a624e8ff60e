use Rattle.std.proofs.Common.{ℕ, ◌*◌, ◌≤◌, refl, one-mul, mul-one, arith, rules}
use Rattle.std.proofs.lemmas.Nat.{mul-le}
use Rattle.plans.proofs.plan.methods.full_packet.Goals as goal

most : (i d s : ℕ) → i ≤ 255 → d ≤ 4294967295 → s ≤ 65535 → i * d * s ≤ 255 * 4294967295 * 65535
most i d s p q r = mul-le (i * d) s (255 * 4294967295) 65535 (mul-le i d 255 4294967295 p q) r

least : (i d s : ℕ) → 1 ≤ i → 1 ≤ s → d ≤ i * d * s
least i d s p q = omega (arith, mul-le 1 d i d p (omega arith), mul-le (i * d) 1 (i * d) s (omega arith) q, mul-one (i * d), one-mul d)

pub overflow_mul-result-2 : goal.overflow_mul-result-2
overflow_mul-result-2 c = let m = most c.args.interval c.args.dimension c.args.size (omega arith) (omega arith) (omega arith) in search rules

pub overflow_add-result : goal.overflow_add-result
overflow_add-result c = let m = most c.args.interval c.args.dimension c.args.size (omega arith) (omega arith) (omega arith) in search rules

pub returns : goal.returns
returns c = record { value = refl; least = omega (arith, least c.args.interval c.args.dimension c.args.size c.requires.some c.requires.sized) }
