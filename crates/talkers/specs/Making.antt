-- When no talker is made.
use Rattle.std.specs.Prelude.{ℕ, cond, Some, None, Option, nat_lt}
use Rattle.talkers.specs.declared.fault.TalkerFault.{TalkerFault}
use Rattle.talkers.specs.declared.fault.TalkerFault.TheVariants.{Source, Delay}

abbrev pub talker_refusal : ℕ → ℕ → Option TalkerFault
talker_refusal sid delay = cond (nat_lt 63 sid) (Some Source) (cond (nat_lt 49151 delay) (Some Delay) None)
