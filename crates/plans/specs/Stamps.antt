-- Which block of a packet is stamped.
use Rattle.std.specs.Prelude.{◌≡◌, ℕ, ◌+◌, ◌-◌, ◌%◌, ◌<◌}

-- the index of the stamped block, counted from a block of this number
abbrev pub stamped_index : ℕ → ℕ → ℕ
stamped_index interval number = (interval - number % interval) % interval

-- it is the one index below the interval at which the number is a multiple of the interval
pub record FirstStamped (interval number index : ℕ) : Type 0 where
  pub below : index < interval
  pub multiple : (number + index) % interval ≡ 0
  pub only : (k : ℕ) → k < interval → (number + k) % interval ≡ 0 → k ≡ index
