-- What an answer tells of the room for a packet.
use Rattle.std.proofs.Common.{◌≡◌, ℕ, Bool, true, false, cond, ltb, List, length, Ok, Err, Result, refl, arith}
use Rattle.faults.specs.declared.units.UnitFault.{UnitFault}
use Rattle.faults.specs.Units.{room}
use Rattle.kinds.specs.Codes.{laid_answer}

told_refused : (b : Bool) (f : UnitFault) → ◌≡◌ {A = Result (Unit {0}) UnitFault} (cond b (Err room) (Ok tt)) (Err f) → (b ≡ true) × (f ≡ room)
told_refused true f e = (refl, cc)
told_refused false f e = let z : ◌≡◌ {A = ℕ} 0 1 = cc in absurd (omega arith)

told_written : (b : Bool) → ◌≡◌ {A = Result (Unit {0}) UnitFault} (cond b (Err room) (Ok tt)) (Ok tt) → b ≡ false
told_written true e = let z : ◌≡◌ {A = ℕ} 0 1 = cc in absurd (omega arith)
told_written false e = refl

pub no_room : (n : ℕ) (bytes : List ℕ) (f : UnitFault) → laid_answer n bytes ≡ Err f → (ltb (length bytes) n ≡ true) × (f ≡ room)
no_room n bytes f e = told_refused (ltb (length bytes) n) f e

pub room_there : (n : ℕ) (bytes : List ℕ) → laid_answer n bytes ≡ Ok tt → ltb (length bytes) n ≡ false
room_there n bytes e = told_written (ltb (length bytes) n) e
