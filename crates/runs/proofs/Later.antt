-- The run in which blocks are left and come later, packet by packet.
use Rattle.std.proofs.Common.{◌≡◌, ℕ, zero, suc, ◌+◌, ◌*◌, ◌<◌, List, length, replicate, Some, Ok, refl, arith}
use Rattle.quadlets.specs.declared.unit.Am824Unit.{Am824Unit}
use Rattle.talkers.specs.Sending.{Sends}
use Rattle.listeners.specs.Hearing.{State as Listener, Hears}
use Rattle.streams.specs.Runs.{first, Calls, ◌then◌, Three, fresh_listener, Packet, packet_at, HeardInOrder, Admitted, Run, made, goes_on}
use Rattle.runs.specs.Desks.{sample, samples}
use Rattle.runs.specs.Left.{plan, desk, score, count, place, talker, bytes, sent, answer, heard, carried, at_the_end}

-- the first listener after k packets
abbrev listener : ℕ → Listener
listener zero = fresh_listener
listener (suc k) = record { next = place (1 + k); heard = place (1 + k); missed = 0; last = Some (1 + k) }

abbrev three : ℕ → ℕ → Three
three sends hearings = record { talker = talker sends; listener1 = listener hearings; listener2 = fresh_listener }

-- packet k is sent and heard by the meanings of a send and of a hearing
abbrev Carried : ℕ → Type 0
Carried k =
    Sends desk score (talker k) (1 + k) (replicate (8 + 4 * count k) 0) (Ok (record { blocks = count k; length = 8 + 4 * count k })) (bytes k) (talker (1 + k))
    × Hears plan (1 + k) (bytes k) (listener k) (replicate (count k) (sample 0)) (Ok (answer k)) (samples (place k) (count k)) (listener (1 + k))

on : (k : ℕ) {cs : Calls Am824Unit} → Carried k → Run desk cs (three k k) → Run desk (cs then sent k then heard k) (three (1 + k) (1 + k))
on k c r = goes_on {w = three (1 + k) (1 + k)} (goes_on {w = three (1 + k) k} r (c.0, refl, refl)) (c.1, refl, refl)

may : (k : ℕ) {ps : List Packet} → k < length ps → 1 + k ≡ (packet_at ps k).cycle → bytes k ≡ (packet_at ps k).bytes → HeardInOrder first ps k k (1 + k) (bytes k)
may k sent c b = record { was_sent = sent; onward = omega arith; its_cycle = c; its_bytes = b; left_out = refl }

packet_0 : Carried 0
packet_0 = (record { answer = refl; left = refl; state = refl }, record { answer = refl; left = refl; state = refl })

packet_1 : Carried 1
packet_1 = (record { answer = refl; left = refl; state = refl }, record { answer = refl; left = refl; state = refl })

packet_2 : Carried 2
packet_2 = (record { answer = refl; left = refl; state = refl }, record { answer = refl; left = refl; state = refl })

packet_3 : Carried 3
packet_3 = (record { answer = refl; left = refl; state = refl }, record { answer = refl; left = refl; state = refl })

packet_4 : Carried 4
packet_4 = (record { answer = refl; left = refl; state = refl }, record { answer = refl; left = refl; state = refl })

packet_5 : Carried 5
packet_5 = (record { answer = refl; left = refl; state = refl }, record { answer = refl; left = refl; state = refl })

packet_6 : Carried 6
packet_6 = (record { answer = refl; left = refl; state = refl }, record { answer = refl; left = refl; state = refl })

packet_7 : Carried 7
packet_7 = (record { answer = refl; left = refl; state = refl }, record { answer = refl; left = refl; state = refl })

packet_8 : Carried 8
packet_8 = (record { answer = refl; left = refl; state = refl }, record { answer = refl; left = refl; state = refl })

pub left_run : Run desk (carried 9) at_the_end
left_run =
    let r1 = on 0 packet_0 made in
    let r2 = on 1 packet_1 r1 in
    let r3 = on 2 packet_2 r2 in
    let r4 = on 3 packet_3 r3 in
    let r5 = on 4 packet_4 r4 in
    let r6 = on 5 packet_5 r5 in
    let r7 = on 6 packet_6 r6 in
    let r8 = on 7 packet_7 r7 in
    on 8 packet_8 r8

may_1 : Admitted score (carried 1)
may_1 = ((tt, refl), may 0 (omega arith) refl refl)

may_2 : Admitted score (carried 2)
may_2 = ((may_1, refl), may 1 (omega arith) refl refl)

may_3 : Admitted score (carried 3)
may_3 = ((may_2, refl), may 2 (omega arith) refl refl)

may_4 : Admitted score (carried 4)
may_4 = ((may_3, refl), may 3 (omega arith) refl refl)

may_5 : Admitted score (carried 5)
may_5 = ((may_4, refl), may 4 (omega arith) refl refl)

may_6 : Admitted score (carried 6)
may_6 = ((may_5, refl), may 5 (omega arith) refl refl)

may_7 : Admitted score (carried 7)
may_7 = ((may_6, refl), may 6 (omega arith) refl refl)

may_8 : Admitted score (carried 8)
may_8 = ((may_7, refl), may 7 (omega arith) refl refl)

pub left_allowed : Admitted score (carried 9)
left_allowed = ((may_8, refl), may 8 (omega arith) refl refl)
