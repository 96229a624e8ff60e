-- The faults of a record, each told by the packet's number and the record's place in the reel.
use Rattle.faults.specs.declared.located.Located.{Located}
use Rattle.faults.specs.declared.refusals.Refusal.{Refusal}
use Rattle.faults.specs.declared.packets.PacketFault.{PacketFault}
use Rattle.faults.specs.declared.records.RecordPosition.{RecordPosition}
use Rattle.faults.specs.declared.records.RecordFault.{RecordFault}
use Rattle.faults.specs.Packets.{told as packet_told}
use Rattle.faults.specs.Refusals.{refused}

abbrev pub told : RecordFault → Refusal
told f = refused (packet_told f.fault).number f.position.place

-- a packet's fault, whole, as the record's
abbrev pub carried : Located RecordPosition PacketFault → RecordFault
carried at = record { position = at.position; fault = at.fault }
