-- Cycles in their order.
use Rattle.std.specs.Prelude.{ℕ, Bool, false, Some, None, Option, nat_le}

-- something was accepted before, in this cycle or a later one
abbrev pub not_later : ℕ → Option ℕ → Bool
not_later c None = false
not_later c (Some last) = nat_le c last
