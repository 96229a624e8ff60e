-- The bytes of a quadlet, one by one.
use Rattle.std.proofs.Common.{◌≡◌, ℕ, ◌<◌, List, [], ◌∷◌, length, arith}
use Rattle.kinds.specs.Codes.{Bytes}

pub four_bytes : (P : List ℕ → Type 0) → ((a b c d : ℕ) → b < 256 → c < 256 → d < 256 → P (a ∷ b ∷ c ∷ d ∷ [])) → (bs : List ℕ) → length bs ≡ 4 → Bytes bs → P bs
four_bytes P p [] l k = absurd (omega arith)
four_bytes P p (a ∷ []) l k = absurd (omega arith)
four_bytes P p (a ∷ b ∷ []) l k = absurd (omega arith)
four_bytes P p (a ∷ b ∷ c ∷ []) l k = absurd (omega arith)
four_bytes P p (a ∷ b ∷ c ∷ d ∷ []) l k = p a b c d k.1.0 k.1.1.0 k.1.1.1.0
four_bytes P p (a ∷ b ∷ c ∷ d ∷ x ∷ xs) l k = absurd (omega arith)
