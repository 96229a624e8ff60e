-- Sixteen blocks that arrive at once, in packets of at most eight: eight are left by the first send, and eight packets follow it.
use Rattle.std.specs.Prelude.{◌≡◌, ℕ, zero, suc, ◌+◌, ◌*◌, min, cond, List, replicate, Some, None, Option, nat_lt}
use Rattle.quadlets.specs.declared.unit.Am824Unit.{Am824Unit}
use Rattle.plans.specs.Streams.{Stream}
use Rattle.talkers.specs.Sending.{Desk, Score, State as Talker, packet}
use Rattle.listeners.specs.declared.heard.Heard.{Heard}
use Rattle.streams.specs.Runs.{first, Call, sends, hears, Calls, none_yet, ◌then◌, Three, fresh_listener, packets, Admitted, Run}
use Rattle.streams.specs.Laws.{numbers, left_unsent, left_numbers, lacking, accepted_after}
use Rattle.runs.specs.Desks.{at_rate, desk_at, sample, samples}

-- 48 kHz
abbrev pub plan : Stream Am824Unit
plan = at_rate 2

abbrev pub desk : Desk Am824Unit
desk = desk_at 2

-- 16 blocks that all arrive at tick 0, with the samples 0 to 15
abbrev pub score : Score Am824Unit
score = record { arrivals = replicate 16 0; units = samples 0 16 }

-- packets 0 and 1 have eight blocks each, and the later ones none
abbrev pub count : ℕ → ℕ
count k = cond (nat_lt k 2) 8 0

abbrev pub place : ℕ → ℕ
place k = min 16 (8 * k)

-- the talker before it sends packet k
abbrev pub talker : ℕ → Talker
talker zero = record { place = 0; last = None }
talker (suc k) = record { place = place (1 + k); last = Some (1 + k) }

-- the bytes of packet k
abbrev pub bytes : ℕ → List ℕ
bytes k = packet desk score (talker k) (1 + k)

-- packet k is sent in cycle k + 1, to as many bytes as it has
abbrev pub sent : ℕ → Call Am824Unit
sent k = sends score (1 + k) (replicate (8 + 4 * count k) 0) (count k) (8 + 4 * count k) (bytes k)

-- the time of the stamped block
abbrev pub told : ℕ → Option ℕ
told k = cond (nat_lt k 2) (Some 8704) None

abbrev pub answer : ℕ → Heard
answer k = record { gap = 0; first = place k; blocks = count k; time = told k }

-- packet k is heard in its cycle
abbrev pub heard : ℕ → Call Am824Unit
heard k = hears first k (1 + k) (bytes k) (replicate (count k) (sample 0)) (answer k) (samples (place k) (count k))

-- packets 0 to k - 1, each sent and then heard by the first listener
abbrev pub carried : ℕ → Calls Am824Unit
carried zero = none_yet
carried (suc k) = carried k then sent k then heard k

-- the three at the end
abbrev pub at_the_end : Three
at_the_end = record {
  talker = record { place = 16; last = Some 9 };
  listener1 = record { next = 16; heard = 16; missed = 0; last = Some 9 };
  listener2 = fresh_listener;
}

-- At the end as many later packets were accepted as blocks were left, so that the law's bound on what is lacking applies.
pub record LeftBlocksComeLater : Type 0 where
  pub run : Run desk (carried 9) at_the_end
  pub admitted : Admitted score (carried 9)
  pub left_by_first : left_unsent score (packets (carried 9)) 0 ≡ 8
  pub accepted_later : accepted_after first (carried 9) 0 ≡ 8
  pub none_has_come : lacking (numbers plan first (carried 1)) (left_numbers score (packets (carried 1)) 0) ≡ 8
  pub all_have_come : lacking (numbers plan first (carried 9)) (left_numbers score (packets (carried 9)) 0) ≡ 0
