-- The sampling rates, by their sampling frequency code.
use Rattle.std.specs.Prelude.{ℕ, cond, Some, None, Option, ◌==◌, nat_le, nat_lt}
use Rattle.plans.specs.declared.rate.Rate.{Rate}

-- SYT_INTERVAL: 8, 8, 8, 16, 16, 32, 32 for the codes 0 to 6
abbrev pub interval : ℕ → ℕ
interval sfc = cond (nat_lt sfc 3) 8 (cond (nat_lt sfc 5) 16 32)

-- the rule of the table: twice the blocks a second, twice the blocks from stamp to stamp
abbrev pub interval_at : ℕ → ℕ
interval_at hertz = cond (nat_le hertz 48000) 8 (cond (nat_le hertz 96000) 16 32)

abbrev pub hertz : ℕ → ℕ
hertz sfc =
    cond (sfc == 0) 32000
    (cond (sfc == 1) 44100
    (cond (sfc == 2) 48000
    (cond (sfc == 3) 88200
    (cond (sfc == 4) 96000
    (cond (sfc == 5) 176400
    192000)))))

abbrev pub rate_of : ℕ → Option Rate
rate_of sfc = cond (nat_le sfc 6) (Some (record { hertz = hertz sfc; interval = interval sfc })) None
