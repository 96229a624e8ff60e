-- Ten packets of 32 blocks each: the first listener hears them all, and the second misses two of them, across block 256.
use Rattle.std.specs.Prelude.{◌≡◌, ℕ, zero, suc, ◌+◌, ◌*◌, cond, List, ◌++◌, replicate, Some, None, Option, nat_lt}
use Rattle.std.specs.List.{range_with_len}
use Rattle.quadlets.specs.declared.unit.Am824Unit.{Am824Unit}
use Rattle.plans.specs.Streams.{Stream}
use Rattle.talkers.specs.Sending.{Desk, Score, State as Talker, packet}
use Rattle.streams.specs.Runs.{Who, first, second, Call, sends, hears, Calls, none_yet, ◌then◌, Three, packets, named_missing, Admitted, Run}
use Rattle.streams.specs.Laws.{numbers, left_unsent, left_numbers, lacking}
use Rattle.runs.specs.Desks.{at_rate, desk_at, sample, samples}

-- 192 kHz
abbrev pub plan : Stream Am824Unit
plan = at_rate 6

abbrev pub desk : Desk Am824Unit
desk = desk_at 6

-- 320 blocks that all arrive at tick 0, with the samples 0 to 319
abbrev pub score : Score Am824Unit
score = record { arrivals = replicate 320 0; units = samples 0 320 }

-- the talker before it sends packet k
abbrev pub talker : ℕ → Talker
talker zero = record { place = 0; last = None }
talker (suc k) = record { place = 32 * (1 + k); last = Some (1 + k) }

-- the bytes of packet k
abbrev pub bytes : ℕ → List ℕ
bytes k = packet desk score (talker k) (1 + k)

-- packet k is sent in cycle k + 1, to as many bytes as it has
abbrev pub sent : ℕ → Call Am824Unit
sent k = sends score (1 + k) (replicate 136 0) 32 136 (bytes k)

-- the time of the stamped block, which is still to come in cycles 1 and 2 only
abbrev pub told : ℕ → Option ℕ
told k = cond (nat_lt k 2) (Some 8704) None

-- packet k is heard in its cycle, after so many blocks that were missed
abbrev pub heard_by : Who → ℕ → ℕ → Call Am824Unit
heard_by who k gap =
    hears who k (1 + k) (bytes k) (replicate 32 (sample 0)) (record { gap = gap; first = 32 * k; blocks = 32; time = told k }) (samples (32 * k) 32)

-- packets 0 to k - 1, each sent and then heard by both
abbrev pub both_hear : ℕ → Calls Am824Unit
both_hear zero = none_yet
both_hear (suc k) = both_hear k then sent k then heard_by first k 0 then heard_by second k 0

-- the second listener hears packets 0 to 6, and then packet 9
abbrev pub calls : Calls Am824Unit
calls =
    both_hear 7
    then sent 7 then heard_by first 7 0
    then sent 8 then heard_by first 8 0
    then sent 9 then heard_by first 9 0 then heard_by second 9 64

-- the three at the end
abbrev pub at_the_end : Three
at_the_end = record {
  talker = record { place = 320; last = Some 10 };
  listener1 = record { next = 320; heard = 320; missed = 0; last = Some 10 };
  listener2 = record { next = 320; heard = 256; missed = 64; last = Some 10 };
}

pub record MissedAcrossTheWrap : Type 0 where
  pub run : Run desk calls at_the_end
  pub admitted : Admitted score calls
  -- blocks 224 to 287
  pub second_misses : named_missing second calls ≡ range_with_len 224 64
  pub second_hands_out : numbers plan second calls ≡ range_with_len 0 224 ++ range_with_len 288 32
  pub first_misses_none : numbers plan first calls ≡ range_with_len 0 320
  -- the first send leaves blocks 32 to 319 due and unsent
  pub left_by_first : left_unsent score (packets calls) 0 ≡ 288
  pub none_has_come : lacking (numbers plan first (both_hear 1)) (left_numbers score (packets (both_hear 1)) 0) ≡ 288
  pub all_have_come : lacking (numbers plan first calls) (left_numbers score (packets calls) 0) ≡ 0
