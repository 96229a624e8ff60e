-- A fault carried upward, whole, with its position.
use Rattle.std.specs.Prelude.{Ok, Err, Result}
use Rattle.faults.specs.declared.units.UnitFault.{UnitFault}
use Rattle.faults.specs.declared.packets.PacketFault.{PacketFault}
use Rattle.faults.specs.declared.packets.UnitPosition.{UnitPosition}
use Rattle.faults.specs.declared.records.RecordFault.{RecordFault}
use Rattle.faults.specs.declared.records.RecordPosition.{RecordPosition}
use Rattle.faults.specs.Packets.{carried as to_packet}
use Rattle.faults.specs.Records.{carried as to_record}

abbrev pub in_packet : {T : Type 0} → UnitPosition → Result T UnitFault → Result T PacketFault
in_packet p (Ok x) = Ok x
in_packet p (Err f) = Err (to_packet (record { position = p; fault = f }))

abbrev pub in_record : {T : Type 0} → RecordPosition → Result T PacketFault → Result T RecordFault
in_record p (Ok x) = Ok x
in_record p (Err f) = Err (to_record (record { position = p; fault = f }))
