-- A walk over records, one after another.
use Rattle.std.specs.Prelude.{ℕ, ◌+◌, not, ◌&&◌, List, length, Some, None, fold, Option}
use Rattle.clock.specs.Cycles.{not_later}
use Rattle.reels.specs.Records.{Record, size_of, extent, last_place, rising}
use Rattle.records.specs.declared.walk.Walk.{Walk}

-- the cycle of the last record
abbrev pub last_cycle : Option ℕ → List Record → Option ℕ
last_cycle before rs = fold (λ _ r. Some r.cycle) before rs

-- a walk that has passed these records
abbrev pub over : List Record → Walk
over rs = record { at = extent rs; count = length rs; last = last_place rs; cycle = last_cycle None rs; rising = rising rs }

-- one record more
abbrev pub passed : Walk → Record → Walk
passed w r = record { at = w.at + size_of r; count = w.count + 1; last = Some w.at; cycle = Some r.cycle; rising = w.rising && not (not_later r.cycle w.cycle) }
