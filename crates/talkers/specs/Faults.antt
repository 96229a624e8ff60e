-- The faults of a talker and of a send, each told by its number.
use Rattle.faults.specs.declared.refusals.Refusal.{Refusal}
use Rattle.faults.specs.Refusals.{refused}
use Rattle.talkers.specs.declared.fault.TalkerFault.{TalkerFault}
use Rattle.talkers.specs.declared.fault.TalkerFault.TheVariants.{Source, Delay}
use Rattle.talkers.specs.declared.fault.SendFault.{SendFault}
use Rattle.talkers.specs.declared.fault.SendFault.TheVariants.{Score, Cycle, Room}

abbrev pub talker_told : TalkerFault → Refusal
talker_told Source = refused 3 0
talker_told Delay = refused 3 0

abbrev pub send_told : SendFault → Refusal
send_told Score = refused 4 0
send_told Cycle = refused 5 0
send_told Room = refused 6 0
