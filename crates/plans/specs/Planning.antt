-- When a stream is not planned.
use Rattle.std.specs.Prelude.{ℕ, ◌+◌, ◌*◌, Bool, cond, ◌||◌, Some, None, Option, ◌==◌, nat_lt}
use Rattle.plans.specs.declared.fault.PlanFault.{PlanFault}
use Rattle.plans.specs.declared.fault.PlanFault.TheVariants.{Rate, Dimension}
use Rattle.plans.specs.Rates.{interval}

-- a block has no unit, or the header and the blocks of an interval pass 1,024 quadlets
abbrev pub bad_dimension : ℕ → ℕ → ℕ → Bool
bad_dimension size sfc dimension = dimension == 0 || nat_lt 1024 (2 + interval sfc * dimension * size)

abbrev pub plan_refusal : ℕ → ℕ → ℕ → Option PlanFault
plan_refusal size sfc dimension = cond (nat_lt 6 sfc) (Some Rate) (cond (bad_dimension size sfc dimension) (Some Dimension) None)
