-- The due blocks have arrived.
use Rattle.std.proofs.Common.{◌≡◌, ℕ, zero, suc, ◌+◌, ◌<◌, ◌≤◌, Bool, true, false, cond, leb, List, [], ◌∷◌, length, get_or, drop, refl, subst, arith}
use Rattle.std.proofs.lemmas.List.{get_or-drop, length-drop}
use Rattle.std.proofs.lemmas.List.Sums.{prefix_len-le-length}
use Rattle.std.proofs.lemmas.Bool.{leb-true}
use Rattle.talkers.specs.Sending.{due}

-- the first block, and then those after it
first : (by x : ℕ) (xs : List ℕ) → ((k : ℕ) → k < due by xs → get_or xs k 0 ≤ by) → (b : Bool) → leb x by ≡ b → (k : ℕ) → k < cond b (1 + due by xs) 0 → get_or (x ∷ xs) k 0 ≤ by
first by x xs more true e zero h = leb-true x by e
first by x xs more true e (suc k) h = more k (omega arith)
first by x xs more false e k h = absurd (omega arith)

pub due_arrived : (by : ℕ) (xs : List ℕ) (k : ℕ) → k < due by xs → get_or xs k 0 ≤ by
due_arrived by [] k h = absurd (omega arith)
due_arrived by (x ∷ xs) k h = first by x xs (due_arrived by xs) (leb x by) refl k h

-- what a method takes of the due blocks from a place on
module _ (arrivals : List ℕ) (place by blocks : ℕ) (reached : place ≤ length arrivals) (most : blocks ≤ due by (drop place arrivals)) where
  pub taken_inside : place + blocks ≤ length arrivals
  taken_inside = omega (arith, prefix_len-le-length (λ a. leb a by) (drop place arrivals), length-drop place arrivals)

  pub taken_arrived : (k : ℕ) → k < blocks → get_or arrivals (place + k) 0 ≤ by
  taken_arrived k l = subst (λ n. n ≤ by) (get_or-drop place arrivals k 0) (due_arrived by (drop place arrivals) k (omega arith))
