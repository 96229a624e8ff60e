-- The faults of a packet, each told by its number and its place in the packet.
use Rattle.std.specs.Prelude.{◌+◌}
use Rattle.faults.specs.declared.located.Located.{Located}
use Rattle.faults.specs.declared.refusals.Refusal.{Refusal}
use Rattle.faults.specs.declared.units.UnitFault.{UnitFault}
use Rattle.faults.specs.declared.packets.UnitPosition.{UnitPosition}
use Rattle.faults.specs.declared.packets.PacketFault.{PacketFault}
use Rattle.faults.specs.declared.packets.PacketFault.TheVariants.{Cycle, Length, Header, Format, Payload, Stamp, List, Unit as UnitCase}
use Rattle.faults.specs.Refusals.{refused}

abbrev pub told : PacketFault → Refusal
told Cycle = refused 5 0
told Length = refused 7 0
told Header = refused 8 0
told Format = refused 9 5
told Payload = refused 10 8
told Stamp = refused 11 6
told List = refused 12 8
told (UnitCase at) = refused 13 (at.position.offset + at.fault.place)

-- a unit's fault, whole, as the packet's
abbrev pub carried : Located UnitPosition UnitFault → PacketFault
carried at = UnitCase at
