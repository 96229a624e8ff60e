-- The worked run, packet by packet.
use Rattle.std.proofs.Common.{ℕ, ◌+◌, refl}
use Rattle.quadlets.specs.declared.unit.Am824Unit.{Am824Unit}
use Rattle.listeners.specs.Hearing.{State as Listener}
use Rattle.streams.specs.Runs.{first, second, Calls, ◌then◌, Run, made, goes_on}
use Rattle.runs.specs.Wrap.{desk, sent, heard_by, calls, at_the_end}
use Rattle.runs.proofs.Steps.{Carried, listener, three, packet_9_late}
use Rattle.runs.proofs.Steps.{packet_0, packet_1, packet_2, packet_3, packet_4, packet_5, packet_6, packet_7, packet_8, packet_9}

one_hears : (k : ℕ) (l : Listener) {cs : Calls Am824Unit} → Carried k → Run desk cs (three k k l)
    → Run desk (cs then sent k then heard_by first k 0) (three (1 + k) (1 + k) l)
one_hears k l c r = goes_on {w = three (1 + k) (1 + k) l} (goes_on {w = three (1 + k) k l} r (c.0, refl, refl)) (c.1, refl, refl)

all_hear : (k : ℕ) {cs : Calls Am824Unit} → Carried k → Run desk cs (three k k (listener k))
    → Run desk (cs then sent k then heard_by first k 0 then heard_by second k 0) (three (1 + k) (1 + k) (listener (1 + k)))
all_hear k c r = goes_on {w = three (1 + k) (1 + k) (listener (1 + k))} (one_hears k (listener k) c r) (c.1, refl, refl)

pub whole_run : Run desk calls at_the_end
whole_run =
    let r1 = all_hear 0 packet_0 made in
    let r2 = all_hear 1 packet_1 r1 in
    let r3 = all_hear 2 packet_2 r2 in
    let r4 = all_hear 3 packet_3 r3 in
    let r5 = all_hear 4 packet_4 r4 in
    let r6 = all_hear 5 packet_5 r5 in
    let r7 = all_hear 6 packet_6 r6 in
    let r8 = one_hears 7 (listener 7) packet_7 r7 in
    let r9 = one_hears 8 (listener 7) packet_8 r8 in
    let r10 = one_hears 9 (listener 7) packet_9 r9 in
    goes_on r10 (packet_9_late, refl, refl)
