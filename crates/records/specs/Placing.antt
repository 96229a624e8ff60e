-- Records as a reel's reader hands them out.
use Rattle.faults.specs.declared.records.RecordPosition.{RecordPosition}
use Rattle.reels.specs.Records.{Record}
use Rattle.records.specs.declared.sequence.Records.{Records}
use Rattle.records.specs.declared.record.Record.{Record as Given}
use Rattle.records.specs.Reading.{Placed, records, placed}

-- a record that is handed out, and one with its position
abbrev pub seen : Given → Record
seen r = record { cycle = r.cycle; packet = r.packet.now }

abbrev pub as_placed : RecordPosition × Given → RecordPosition × Record
as_placed x = (x.0, seen x.1)

-- the records that are still to come, each with its position
abbrev pub records_left : Records → Placed
records_left it = placed it.position (records it.rest.now)
