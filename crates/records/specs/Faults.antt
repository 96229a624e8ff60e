-- The faults of a reel, each told by its number and its place in the reel.
use Rattle.std.specs.Prelude.{ℕ}
use Rattle.faults.specs.declared.refusals.Refusal.{Refusal}
use Rattle.faults.specs.Refusals.{refused}
use Rattle.plans.specs.Faults.{told as plan_told}
use Rattle.records.specs.declared.fault.ReelCause.{ReelCause}
use Rattle.records.specs.declared.fault.ReelCause.TheVariants.{Length, Event, Plan, Record, Trailer}
use Rattle.records.specs.declared.fault.ReelFault.{ReelFault}

abbrev pub number : ReelCause → ℕ
number Length = 18
number Event = 22
number (Plan fault) = (plan_told fault).number
number Record = 19
number Trailer = 20

abbrev pub told : ReelFault → Refusal
told f = refused (number f.cause) f.place
