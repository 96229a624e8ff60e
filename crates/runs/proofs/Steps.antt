-- Each send and each hearing of the worked run is one by its meaning.
use Rattle.std.proofs.Common.{ℕ, zero, suc, ◌+◌, ◌*◌, replicate, Some, Ok, refl}
use Rattle.talkers.specs.Sending.{Sends}
use Rattle.listeners.specs.Hearing.{State as Listener, Hears}
use Rattle.streams.specs.Runs.{Three, fresh_listener}
use Rattle.runs.specs.Desks.{sample, samples}
use Rattle.runs.specs.Wrap.{plan, desk, score, talker, bytes, told}

-- packet k is sent by the meaning of a send
abbrev pub Sent : ℕ → Type 0
Sent k = Sends desk score (talker k) (1 + k) (replicate 136 0) (Ok (record { blocks = 32; length = 136 })) (bytes k) (talker (1 + k))

-- packet k is heard, after so many missed blocks, by the meaning of a hearing
abbrev pub HeardAs : ℕ → ℕ → Listener → Listener → Type 0
HeardAs k gap l l' =
    Hears plan (1 + k) (bytes k) l (replicate 32 (sample 0)) (Ok (record { gap = gap; first = 32 * k; blocks = 32; time = told k })) (samples (32 * k) 32) l'

-- a listener that has heard the first k packets
abbrev pub listener : ℕ → Listener
listener zero = fresh_listener
listener (suc k) = record { next = 32 * (1 + k); heard = 32 * (1 + k); missed = 0; last = Some (1 + k) }

-- the three after so many sends and so many hearings by the first, with this second listener
abbrev pub three : ℕ → ℕ → Listener → Three
three sends hearings l = record { talker = talker sends; listener1 = listener hearings; listener2 = l }

-- packet k is sent, and a listener that has heard all before it hears it
abbrev pub Carried : ℕ → Type 0
Carried k = Sent k × HeardAs k 0 (listener k) (listener (1 + k))

pub packet_0 : Carried 0
packet_0 = (record { answer = refl; left = refl; state = refl }, record { answer = refl; left = refl; state = refl })

pub packet_1 : Carried 1
packet_1 = (record { answer = refl; left = refl; state = refl }, record { answer = refl; left = refl; state = refl })

pub packet_2 : Carried 2
packet_2 = (record { answer = refl; left = refl; state = refl }, record { answer = refl; left = refl; state = refl })

pub packet_3 : Carried 3
packet_3 = (record { answer = refl; left = refl; state = refl }, record { answer = refl; left = refl; state = refl })

pub packet_4 : Carried 4
packet_4 = (record { answer = refl; left = refl; state = refl }, record { answer = refl; left = refl; state = refl })

pub packet_5 : Carried 5
packet_5 = (record { answer = refl; left = refl; state = refl }, record { answer = refl; left = refl; state = refl })

pub packet_6 : Carried 6
packet_6 = (record { answer = refl; left = refl; state = refl }, record { answer = refl; left = refl; state = refl })

pub packet_7 : Carried 7
packet_7 = (record { answer = refl; left = refl; state = refl }, record { answer = refl; left = refl; state = refl })

pub packet_8 : Carried 8
packet_8 = (record { answer = refl; left = refl; state = refl }, record { answer = refl; left = refl; state = refl })

pub packet_9 : Carried 9
packet_9 = (record { answer = refl; left = refl; state = refl }, record { answer = refl; left = refl; state = refl })

-- the second listener at the end
abbrev pub late : Listener
late = record { next = 320; heard = 256; missed = 64; last = Some 10 }

pub packet_9_late : HeardAs 9 64 (listener 7) late
packet_9_late = record { answer = refl; left = refl; state = refl }
