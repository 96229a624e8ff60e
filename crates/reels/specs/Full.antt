-- When a reel cannot grow, and how that is told.
use Rattle.std.specs.Prelude.{ℕ, ◌+◌, Bool, cond, ◌||◌, Some, None, Option, nat_lt}
use Rattle.faults.specs.declared.refusals.Refusal.{Refusal}
use Rattle.faults.specs.Refusals.{refused}
use Rattle.reels.specs.declared.full.ReelFull.{ReelFull}

abbrev pub told : Refusal
told = refused 21 0

-- bytes for so many, or the 65,536 of the longest reel, do not hold records of this extent and a trailer
abbrev pub too_long : ℕ → ℕ → Bool
too_long extent room = nat_lt room (extent + 12) || nat_lt 65536 (extent + 12)

abbrev pub full_refusal : ℕ → ℕ → Option ReelFull
full_refusal extent room = cond (too_long extent room) (Some (record {})) None
