-- The faults of a plan, each told by its number.
use Rattle.faults.specs.declared.refusals.Refusal.{Refusal}
use Rattle.faults.specs.Refusals.{refused}
use Rattle.plans.specs.declared.fault.PlanFault.{PlanFault}
use Rattle.plans.specs.declared.fault.PlanFault.TheVariants.{Rate, Dimension}

abbrev pub told : PlanFault → Refusal
told Rate = refused 1 0
told Dimension = refused 2 0
