-- What holds of each admitted list of calls.
use Rattle.std.specs.Prelude.{◌≡◌, ℕ, ◌+◌, ◌-◌, ◌*◌, ◌%◌, ◌<◌, ◌≤◌, ◌↔◌, List, [], map, length, take, drop, Some, None, count_by, nat_eq, nat_lt}
use Rattle.std.specs.List.{ContainsAt, AllByRecursion, range_with_len}
use Rattle.clock.specs.Ticks.{start as tick}
use Rattle.plans.specs.Streams.{Stream, every}
use Rattle.talkers.specs.Sending.{Desk, Score, due, presented}
use Rattle.listeners.specs.Hearing.{State as Listener}
use Rattle.streams.specs.Runs.{Who, first, second, Calls, Three, Packet, packet_at, blocks, start, Block, packets, accepted, end, named_missing, handed_out, Admitted, Run, made, goes_on}

-- how often a number stands in a list
abbrev pub times : ℕ → List ℕ → ℕ
times n xs = count_by (nat_eq n) xs

-- how many numbers of the second list do not stand in the first
abbrev pub lacking : List ℕ → List ℕ → ℕ
lacking have wanted = count_by (λ n. nat_eq (times n have) 0) wanted

-- a packet that holds the block of this number
pub record Holds (ps : List Packet) (j n : ℕ) : Type 0 where
  pub was_sent : j < length ps
  pub from : start ps j ≤ n
  pub to : n < start ps j + (packet_at ps j).count

-- the numbers of the blocks that a listener handed out
abbrev pub numbers : {U : Type 0} → Stream U → Who → Calls U → List ℕ
numbers {U} p l cs = map (λ (b : Block U). b.number) (handed_out p l cs)

-- the blocks that an accepted send left due and unsent, by its packet's place in the order sent: how many, and their numbers
abbrev pub left_unsent : {U : Type 0} → Score U → List Packet → ℕ → ℕ
left_unsent s ps j = due (tick (packet_at ps j).cycle) (drop (start ps j) s.arrivals) - (packet_at ps j).count

abbrev pub left_numbers : {U : Type 0} → Score U → List Packet → ℕ → List ℕ
left_numbers s ps j = range_with_len (start ps j + (packet_at ps j).count) (left_unsent s ps j)

-- how many packets that were sent after the j-th a listener accepted
abbrev pub accepted_after : {U : Type 0} → Who → Calls U → ℕ → ℕ
accepted_after l cs j = count_by (λ k. nat_lt j k) (accepted l cs)

module _ {U : Type 0} (d : Desk U) (s : Score U) where
  -- the time at which a block of the score is to be heard: its arrival plus the delay
  abbrev pub time_due : ℕ → ℕ
  time_due n = presented d.delay s.arrivals n

  -- a stamped block whose time is not before the start of the cycle
  pub record DueATime (cycle n : ℕ) : Type 0 where
    pub stamped : n % every d.stream ≡ 0
    pub in_time : tick cycle ≤ time_due n

  -- The block has the number and the units of a block of the score; it has a time exactly when it is stamped and its arrival plus the
  -- delay is not before the start of its packet's cycle, and the time is that sum.
  pub record AsInScore (ps : List Packet) (b : Block U) : Type 0 where
    pub of_score : b.number < length s.arrivals
    pub units_are : b.units ≡ take d.stream.dimension (drop (d.stream.dimension * b.number) s.units)
    pub packet : ℕ
    pub held : Holds ps packet b.number
    pub with_time : DueATime (packet_at ps packet).cycle b.number → b.time ≡ Some (time_due b.number)
    pub without_time : ¬ (DueATime (packet_at ps packet).cycle b.number) → b.time ≡ None

  abbrev pub HandedOutAsInScore : Calls U → Type 0
  HandedOutAsInScore cs = (l : Who) → AllByRecursion (AsInScore (packets cs)) (handed_out d.stream l cs)

  abbrev pub AlikeInBoth : Calls U → Type 0
  AlikeInBoth cs = (a b : Block U) → ContainsAt (handed_out d.stream first cs) a → ContainsAt (handed_out d.stream second cs) b → a.number ≡ b.number → a ≡ b

  -- each number below the end is handed out or named missing, once in all, and no other number is
  pub record AccountedOnce (l : Who) (cs : Calls U) : Type 0 where
    pub below : (n : ℕ) → n < end l cs → times n (numbers d.stream l cs) + times n (named_missing l cs) ≡ 1
    pub above : (n : ℕ) → end l cs ≤ n → times n (numbers d.stream l cs) + times n (named_missing l cs) ≡ 0

  -- a number below the end is named missing exactly when its packet was not accepted
  abbrev pub MissingWhenNotAccepted : Who → Calls U → Type 0
  MissingWhenNotAccepted l cs = (j n : ℕ) → Holds (packets cs) j n → n < end l cs → (times n (named_missing l cs) ≡ 1) ↔ (times j (accepted l cs) ≡ 0)

  pub record Counted (l : Who) (cs : Calls U) (w : Listener) : Type 0 where
    pub heard_is : w.heard ≡ length (handed_out d.stream l cs)
    pub missed_is : w.missed ≡ length (named_missing l cs)

  -- each number below the end is handed out once, and no other is; none is named missing
  pub record HandedOutOnce (l : Who) (cs : Calls U) : Type 0 where
    pub below : (n : ℕ) → n < end l cs → times n (numbers d.stream l cs) ≡ 1
    pub above : (n : ℕ) → end l cs ≤ n → times n (numbers d.stream l cs) ≡ 0
    pub none_missing : named_missing l cs ≡ []

  -- Of each accepted send, count the blocks that it left due and unsent. Once the first listener has accepted as many packets that were
  -- sent later, it has handed out all of those blocks but fewer than SYT_INTERVAL.
  abbrev pub LeftBlocksCome : Calls U → Type 0
  LeftBlocksCome cs = (j : ℕ) → j < length (packets cs) → left_unsent s (packets cs) j ≤ accepted_after first cs j
      → lacking (numbers d.stream first cs) (left_numbers s (packets cs) j) < every d.stream

  -- what holds at a moment
  pub record StreamLaw (cs : Calls U) (w : Three) : Type 0 where
    pub as_in_score : HandedOutAsInScore cs
    pub alike_in_both : AlikeInBoth cs
    pub second_accounted : AccountedOnce second cs
    pub second_missing : MissingWhenNotAccepted second cs
    pub second_counted : Counted second cs w.listener2
    pub first_handed_out : HandedOutOnce first cs
    pub left_blocks_come : LeftBlocksCome cs
    -- the talker stands where the packets end, so that a packet starts at the place of its send
    pub place_is : w.talker.place ≡ blocks (packets cs)

  -- it holds now and held after each earlier call, and at the making
  abbrev pub Always : {cs : Calls U} {w : Three} → Run d cs w → Type 0
  Always {cs} {w} made = StreamLaw cs w
  Always {cs} {w} (goes_on r step) = StreamLaw cs w × Always r

-- From the making of the three on, whatever score is sent and whatever list of calls is admitted, the law holds after each call.
abbrev pub LawFromTheMaking : {U : Type 0} → Desk U → Type 0
LawFromTheMaking {U} d = (s : Score U) (cs : Calls U) (w : Three) (r : Run d cs w) → Admitted s cs → Always d s r
