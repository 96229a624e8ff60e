-- The eight-bit count of blocks.
use Rattle.std.specs.Prelude.{ℕ, ◌+◌, ◌-◌, ◌%◌}

-- the blocks that lead from the next number to one with this count
abbrev pub gap_to : ℕ → ℕ → ℕ
gap_to next count = (count + 256 - next % 256) % 256
