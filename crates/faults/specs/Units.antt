-- The faults of a unit, each told by its number and its place in the unit.
use Rattle.std.specs.Prelude.{ℕ}
use Rattle.faults.specs.declared.refusals.Refusal.{Refusal}
use Rattle.faults.specs.declared.units.UnitCause.{UnitCause}
use Rattle.faults.specs.declared.units.UnitCause.TheVariants.{Room, Cut, Label, Padding, Unused, Field}
use Rattle.faults.specs.declared.units.UnitFault.{UnitFault}
use Rattle.faults.specs.Refusals.{refused}

abbrev pub number : UnitCause → ℕ
number Room = 6
number Cut = 7
number Label = 14
number Padding = 15
number Unused = 16
number Field = 17

abbrev pub told : UnitFault → Refusal
told f = refused (number f.cause) f.place

-- the faults of one unit, at the places where it has them
abbrev pub room : UnitFault
room = record { cause = Room; place = 0 }

abbrev pub cut : UnitFault
cut = record { cause = Cut; place = 0 }

abbrev pub label : UnitFault
label = record { cause = Label; place = 0 }

abbrev pub padding : UnitFault
padding = record { cause = Padding; place = 1 }

abbrev pub unused : ℕ → UnitFault
unused at = record { cause = Unused; place = at }

abbrev pub field : UnitFault
field = record { cause = Field; place = 0 }
