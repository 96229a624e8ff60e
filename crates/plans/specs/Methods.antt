-- How many blocks a blocking sender takes.
use Rattle.std.specs.Prelude.{ℕ, cond, nat_le}

-- as many as the interval where so many are due, else none
abbrev pub whole : ℕ → ℕ → ℕ
whole due interval = cond (nat_le interval due) interval 0
