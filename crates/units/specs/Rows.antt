-- What reading a row of units answers, and what it leaves in a list.
use Rattle.std.specs.Prelude.{ℕ, zero, suc, ◌+◌, cond, List, [], ◌∷◌, ◌++◌, length, drop, Ok, Err, Result, nat_lt}
use Rattle.faults.specs.declared.located.Located.{Located}
use Rattle.faults.specs.declared.units.UnitFault.{UnitFault}
use Rattle.kinds.specs.Codes.{read_front}
use Rattle.units.specs.declared.fault.RowFault.{RowFault}
use Rattle.units.specs.declared.fault.RowFault.TheVariants.{List as ListCase}
use Rattle.units.specs.Faults.{carried}

-- the answer for one unit, and then that for the units after it
abbrev pub before : {U : Type 0} → Result U UnitFault → Result (List U) (Located ℕ UnitFault) → Result (List U) (Located ℕ UnitFault)
before (Ok u) (Ok us) = Ok (u ∷ us)
before (Ok u) (Err at) = Err (record { position = at.position + 1; fault = at.fault })
before (Err f) rest = Err (record { position = 0; fault = f })

-- so many units of n bytes each, or the first that is refused and its index
abbrev pub row : {U : Type 0} → ℕ → (List ℕ → Result U UnitFault) → ℕ → List ℕ → Result (List U) (Located ℕ UnitFault)
row n heard zero bs = Ok []
row n heard (suc count) bs = before (read_front n heard bs) (row n heard count (drop n bs))

-- the same without the units
abbrev pub whether : {U E : Type 0} → Result (List U) E → Result (Unit {0}) E
whether (Ok us) = Ok tt
whether (Err at) = Err at

abbrev pub read_answer : {U : Type 0} → Result (List U) (Located ℕ UnitFault) → Result (Unit {0}) RowFault
read_answer (Ok us) = Ok tt
read_answer (Err at) = Err (carried at)

abbrev pub over : {U : Type 0} → ℕ → Result (List U) (Located ℕ UnitFault) → List U → List U
over count (Ok us) list = us ++ drop count list
over count (Err at) list = list

-- what reading a row into a list answers: the list's fault before a unit's
abbrev pub row_answer : {U : Type 0} → ℕ → Result (List U) (Located ℕ UnitFault) → List U → Result (Unit {0}) RowFault
row_answer count units list = cond (nat_lt (length list) count) (Err ListCase) (read_answer units)

-- what it leaves: the units at the front and the rest as it was, or all as it was
abbrev pub row_left : {U : Type 0} → ℕ → Result (List U) (Located ℕ UnitFault) → List U → List U
row_left count units list = cond (nat_lt (length list) count) list (over count units list)
