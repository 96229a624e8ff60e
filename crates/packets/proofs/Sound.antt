-- What is known of a packet that is not refused.
use Rattle.std.proofs.Common.{◌≡◌, ℕ, ◌+◌, ◌-◌, ◌*◌, ◌≤◌, false, cond, List, length, None, arith}
use native.Mathlib.Nat.{mul-div-le}
use Rattle.std.proofs.lemmas.Bool.{or_parts, ltb-false}
use Rattle.faults.proofs.Outcomes.{none_refused}
use Rattle.plans.specs.Streams.{Stream, every, block_bytes}
use Rattle.packets.specs.Sorting.{idle, bad_length, bad_header, bad_format, bad_payload, bad_stamp, blocks, refusal}

module _ {U : Type 0} (s : Stream U) (bs : List ℕ) (e : refusal s bs ≡ None) where
  pub sorted_long : 8 ≤ length bs
  sorted_long = ltb-false _ _ (or_parts _ _ (none_refused (bad_length bs) _ _ e).0).0

  pub sorted_short : length bs ≤ 4096
  sorted_short = ltb-false _ _ (or_parts _ _ (or_parts _ _ (none_refused (bad_length bs) _ _ e).0).1).0

  -- the blocks of a packet that is not idle are no more than an interval
  pub sorted_few : idle bs ≡ false → blocks s bs ≤ every s
  sorted_few i =
      let a = none_refused (bad_length bs) _ _ e in
      let b = none_refused (bad_header s bs) _ _ a.1 in
      let c = none_refused (bad_format s bs) _ _ b.1 in
      let d : cond false None (cond (bad_payload s bs) _ (cond (bad_stamp s bs) _ None)) ≡ None = rw i at c.1 in
      ltb-false _ _ (or_parts _ _ (none_refused (bad_payload s bs) _ _ d).0).1

  -- they stand in the payload
  pub sorted_whole : 8 + block_bytes s * blocks s bs ≤ length bs
  sorted_whole = let h = sorted_long in omega (arith, mul-div-le (length bs - 8) (block_bytes s))
