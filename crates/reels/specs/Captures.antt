-- A capture: all that is done to an open reel and its bytes from the opening on.
use Rattle.std.specs.Prelude.{◌≡◌, ℕ, ◌<◌, List, [], ◌∷◌, ◌++◌, take, None, Ok, Err}
use Rattle.plans.specs.Planning.{plan_refusal}
use Rattle.reels.specs.declared.full.ReelFull.{ReelFull}
use Rattle.reels.specs.declared.plan.ReelPlan.{ReelPlan}
use Rattle.reels.specs.declared.plan.ReelPlan.TheVariants.{Am824, Pack}
use Rattle.reels.specs.Records.{Record}
use Rattle.reels.specs.Writing.{Open, opened, Appends}

-- the plan is one that is made
abbrev pub Planned : ReelPlan → Type 0
Planned (Am824 p) = plan_refusal 1 p.sfc p.dimension ≡ None
Planned (Pack p) = plan_refusal 3 p.sfc p.dimension ≡ None

-- the open reel, its bytes, and the records that were appended to it, in their order
pub data Capture (p : ReelPlan) : Open → List ℕ → List Record → Type 0 where
  opens : (bytes : List ℕ) → Capture p (opened p) bytes []
  -- other bytes may be passed at the next call, if they begin with what was written
  moves : {o : Open} {bytes : List ℕ} {rs : List Record} (bytes' : List ℕ) →
      Capture p o bytes rs → take o.used bytes' ≡ take o.used bytes → Capture p o bytes' rs
  appends : {o o' : Open} {bytes bytes' : List ℕ} {rs : List Record} (r : Record) →
      Capture p o bytes rs → r.cycle < 4294967296 → Appends o r bytes (Ok tt) bytes' o' → Capture p o' bytes' (rs ++ r ∷ [])
  refuses : {o o' : Open} {bytes bytes' : List ℕ} {rs : List Record} (r : Record) (full : ReelFull) →
      Capture p o bytes rs → Appends o r bytes (Err full) bytes' o' → Capture p o' bytes' rs
