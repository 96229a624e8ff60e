-- The default transfer delays, in ticks.
use Rattle.std.specs.Prelude.{ℕ, ◌+◌, ◌-◌, ◌*◌, ◌/◌, Bool, cond, Ok, Err, Result, nat_le}
use Rattle.plans.specs.declared.fault.PlanFault.{PlanFault}
use Rattle.plans.specs.declared.fault.PlanFault.TheVariants.{Rate}
use Rattle.plans.specs.Rates.{hertz, interval}

-- how long the blocks of an interval take, rounded up, at 24,576,000 ticks a second
abbrev pub duration : ℕ → ℕ
duration sfc = (24576000 * interval sfc + hertz sfc - 1) / hertz sfc

abbrev pub default_delay : ℕ → Bool → Result ℕ PlanFault
default_delay sfc blocking = cond (nat_le sfc 6) (Ok (cond blocking (8704 + duration sfc) 8704)) (Err Rate)
