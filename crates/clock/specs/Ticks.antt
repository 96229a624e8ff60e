-- Cycles and stamps in ticks.
use Rattle.std.specs.Prelude.{◌≡◌, ℕ, ◌+◌, ◌-◌, ◌*◌, ◌/◌, ◌%◌, ◌<◌, ◌≤◌}

-- the tick at which a cycle starts
abbrev pub start : ℕ → ℕ
start c = 3072 * c

-- the stamp of a time
abbrev pub stamp : ℕ → ℕ
stamp t = 4096 * (t / 3072 % 16) + t % 3072

-- the ticks that a stamp counts
abbrev pub ticks : ℕ → ℕ
ticks syt = 3072 * (syt / 4096) + syt % 4096

-- the time that a stamp tells in a cycle: as far from its start as the stamp's ticks are ahead of the start's, modulo sixteen cycles
abbrev pub time_of : ℕ → ℕ → ℕ
time_of c syt = start c + (ticks syt % 49152 + 49152 - start c % 49152) % 49152

-- a stamp tells a time in a cycle: one of the 49,152 ticks from its start, and congruent to the stamp's
pub record Told (c syt t : ℕ) : Type 0 where
  pub from : start c ≤ t
  pub before : t < start c + 49152
  pub same : t % 49152 ≡ ticks syt % 49152
