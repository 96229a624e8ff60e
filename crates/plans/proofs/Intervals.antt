-- What holds at the intervals 8, 16 and 32.
use Rattle.std.proofs.Common.{ℕ, ◌+◌, ◌*◌, ◌≤◌, ltb, mul_assoc, mul-one, arith}
use Rattle.std.proofs.lemmas.Nat.{mul-le}
use Rattle.std.proofs.lemmas.Bool.{cond_both}
use Rattle.plans.specs.Rates.{interval}
use Rattle.plans.specs.Stamps.{stamped_index, FirstStamped}

-- what holds at each interval holds at that of any code
pub at_intervals : (P : ℕ → Type 0) → P 8 → P 16 → P 32 → (sfc : ℕ) → P (interval sfc)
at_intervals P p q r sfc = cond_both (ltb sfc 3) _ _ P (λ _. p) (λ _. cond_both (ltb sfc 5) _ _ P (λ _. q) (λ _. r))

pub first_stamped : (sfc number : ℕ) → FirstStamped (interval sfc) number (stamped_index (interval sfc) number)
first_stamped sfc n =
    at_intervals (λ i. FirstStamped i n (stamped_index i n))
    (record { below = omega arith; multiple = omega arith; only = λ k h e. omega arith })
    (record { below = omega arith; multiple = omega arith; only = λ k h e. omega arith })
    (record { below = omega arith; multiple = omega arith; only = λ k h e. omega arith })
    sfc

pub interval_least : (sfc : ℕ) → 8 ≤ interval sfc
interval_least sfc = at_intervals (λ i. 8 ≤ i) (omega arith) (omega arith) (omega arith) sfc

pub interval_most : (sfc : ℕ) → interval sfc ≤ 32
interval_most sfc = at_intervals (λ i. i ≤ 32) (omega arith) (omega arith) (omega arith) sfc

-- a packet holds at least eight blocks, so a block has at most 127 quadlets
pub dbs_most : (sfc d q : ℕ) → 2 + interval sfc * d * q ≤ 1024 → d * q ≤ 127
dbs_most sfc d q h = omega (arith, mul-le 8 (d * q) (interval sfc) (d * q) (interval_least sfc) (omega arith), mul_assoc (interval sfc) d q)

pub dimension_most : (sfc d q : ℕ) → 1 ≤ q → 2 + interval sfc * d * q ≤ 1024 → d ≤ 1022
dimension_most sfc d q k h = omega (arith, dbs_most sfc d q h, mul-le d 1 d q (omega arith) k, mul-one d)
