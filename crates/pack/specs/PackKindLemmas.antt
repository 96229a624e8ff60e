-- Twelve bytes are those of their pack, three at a time.
use Rattle.std.specs.Prelude.{◌≡◌, ℕ, ◌+◌, ◌*◌, ◌/◌, ◌%◌, ◌<◌, List, [], ◌∷◌, length}
use Rattle.std.proofs.Common.{arith}
use Rattle.kinds.specs.Bits.{bytes, from_bytes}
use Rattle.kinds.specs.Codes.{Bytes}

-- three bytes are those of their sample
pub three : (x y z : ℕ) → y < 256 → z < 256 → x ∷ y ∷ z ∷ [] ≡ bytes (from_bytes x y z)
three x y z h i =
    let p : y ≡ (256 * y + z) / 256 = omega arith in
    let q : z ≡ (256 * y + z) % 256 = omega arith in
    λ j. x ∷ p j ∷ q j ∷ []

-- a list that has three bytes more than n begins with them
pub front : (n : ℕ) (P : List ℕ → Type 0) → ((x y z : ℕ) → y < 256 → z < 256 → (rest : List ℕ) → length rest ≡ n → Bytes rest → P (x ∷ y ∷ z ∷ rest)) → (bs : List ℕ) → length bs ≡ n + 3 → Bytes bs → P bs
front n P f [] l k = absurd (omega arith)
front n P f (x ∷ []) l k = absurd (omega arith)
front n P f (x ∷ y ∷ []) l k = absurd (omega arith)
front n P f (x ∷ y ∷ z ∷ rest) l k = f x y z k.1.0 k.1.1.0 rest (omega arith) k.1.1.1

pub empty : (P : List ℕ → Type 0) → P [] → (bs : List ℕ) → length bs ≡ 0 → P bs
empty P p [] l = p
empty P p (x ∷ bs) l = absurd (omega arith)
