-- Each call of the worked run may come where it comes.
use Rattle.std.proofs.Common.{◌≡◌, ℕ, ◌+◌, ◌-◌, ◌<◌, ◌≤◌, List, length, take, drop, refl, arith}
use Rattle.streams.specs.Runs.{first, second, Packet, packet_at, blocks, HeardInOrder, Admitted}
use Rattle.runs.specs.Wrap.{bytes, score, both_hear, calls}

by_first : (k : ℕ) {ps : List Packet} → k < length ps → 1 + k ≡ (packet_at ps k).cycle → bytes k ≡ (packet_at ps k).bytes
    → HeardInOrder first ps k k (1 + k) (bytes k)
by_first k sent c b = record { was_sent = sent; onward = omega arith; its_cycle = c; its_bytes = b; left_out = refl }

by_second : (k reached : ℕ) {ps : List Packet} → k < length ps → reached ≤ k → 1 + k ≡ (packet_at ps k).cycle → bytes k ≡ (packet_at ps k).bytes
    → blocks (take (k - reached) (drop reached ps)) < 256 → HeardInOrder second ps reached k (1 + k) (bytes k)
by_second k reached sent on c b few = record { was_sent = sent; onward = on; its_cycle = c; its_bytes = b; left_out = few }

both_1 : Admitted score (both_hear 1)
both_1 = (((tt, refl), by_first 0 (omega arith) refl refl), by_second 0 0 (omega arith) (omega arith) refl refl (omega arith))

both_2 : Admitted score (both_hear 2)
both_2 = (((both_1, refl), by_first 1 (omega arith) refl refl), by_second 1 1 (omega arith) (omega arith) refl refl (omega arith))

both_3 : Admitted score (both_hear 3)
both_3 = (((both_2, refl), by_first 2 (omega arith) refl refl), by_second 2 2 (omega arith) (omega arith) refl refl (omega arith))

both_4 : Admitted score (both_hear 4)
both_4 = (((both_3, refl), by_first 3 (omega arith) refl refl), by_second 3 3 (omega arith) (omega arith) refl refl (omega arith))

both_5 : Admitted score (both_hear 5)
both_5 = (((both_4, refl), by_first 4 (omega arith) refl refl), by_second 4 4 (omega arith) (omega arith) refl refl (omega arith))

both_6 : Admitted score (both_hear 6)
both_6 = (((both_5, refl), by_first 5 (omega arith) refl refl), by_second 5 5 (omega arith) (omega arith) refl refl (omega arith))

both_7 : Admitted score (both_hear 7)
both_7 = (((both_6, refl), by_first 6 (omega arith) refl refl), by_second 6 6 (omega arith) (omega arith) refl refl (omega arith))

pub allowed : Admitted score calls
allowed = (((((((both_7, refl), by_first 7 (omega arith) refl refl), refl), by_first 8 (omega arith) refl refl), refl), by_first 9 (omega arith) refl refl), by_second 9 7 (omega arith) (omega arith) refl refl (omega arith))
