-- An answer tells its refusal.
use Rattle.std.proofs.Common.{◌≡◌, ℕ, Bool, true, false, cond, Some, None, Ok, Err, Option, refl, arith}
use Rattle.std.specs.Option.{option_or}
use Rattle.faults.specs.Outcomes.{answered}

pub was_ok : {T E : Type 0} (o : Option E) (x y : T) → Ok y ≡ answered o x → (o ≡ None) × (y ≡ x)
was_ok None x y e = (refl, cc)
was_ok (Some f) x y e = let z : ◌≡◌ {A = ℕ} 0 1 = cc in absurd (omega arith)

pub was_err : {T E : Type 0} (o : Option E) (x : T) (f : E) → Err f ≡ answered o x → o ≡ Some f
was_err None x f e = let z : ◌≡◌ {A = ℕ} 0 1 = cc in absurd (omega arith)
was_err (Some g) x f e = cc

-- a chain of refusals that gives none
pub none_refused : {X : Type 0} (b : Bool) (x : X) (o : Option X) → cond b (Some x) o ≡ None → (b ≡ false) × (o ≡ None)
none_refused true x o e = let z : ◌≡◌ {A = ℕ} 0 1 = cc in absurd (omega arith)
none_refused false x o e = (refl, e)

pub neither_refused : {X : Type 0} (a b : Option X) → option_or a b ≡ None → (a ≡ None) × (b ≡ None)
neither_refused None b e = (refl, e)
neither_refused (Some x) b e = let z : ◌≡◌ {A = ℕ} 0 1 = cc in absurd (omega arith)
