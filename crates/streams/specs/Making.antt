-- What the making of a talker and two listeners promises.
use Rattle.std.specs.Prelude.{◌≡◌, ℕ, List, Result}
use Rattle.faults.specs.declared.packets.PacketFault.{PacketFault}
use Rattle.kinds.specs.declared.kind.Kind.{Ghosts}
use Rattle.plans.specs.declared.plan.Plan.{Plan}
use Rattle.plans.specs.Streams.{Stream}
use Rattle.talkers.specs.declared.fault.SendFault.{SendFault}
use Rattle.talkers.specs.declared.sent.Sent.{Sent}
use Rattle.talkers.specs.Sending.{Desk, Score, State as Talker, Sends}
use Rattle.talkers.specs.Views.{state as talker_state}
use Rattle.listeners.specs.declared.heard.Heard.{Heard}
use Rattle.listeners.specs.Hearing.{State as Listener, Hears}
use Rattle.listeners.specs.Views.{state as listener_state}
use Rattle.streams.specs.declared.trio.Trio.{Trio}
use Rattle.streams.specs.Laws.{LawFromTheMaking}
use Rattle.streams.specs.Runs.{Three, fresh}

-- the three as runs speak of them
abbrev pub three : {X M U : Type 0} {K : Ghosts X U} → Trio X M U K → Three
three t = record { talker = talker_state t.talker; listener1 = listener_state t.first; listener2 = listener_state t.second }

-- the three are fresh, made of what was given, and on that plan
pub record MadeOf {X M U : Type 0} {K : Ghosts X U} (plan : Plan X U K) (method : M) (sid delay : ℕ) (t : Trio X M U K) : Type 0 where
  pub talker_plan : t.talker.plan ≡ plan
  pub first_plan : t.first.plan ≡ plan
  pub second_plan : t.second.plan ≡ plan
  pub talker_method : t.talker.method ≡ method
  pub talker_sid : t.talker.sid ≡ sid
  pub talker_delay : t.talker.delay ≡ delay
  pub all_fresh : three t ≡ fresh

-- one input of a send has one result
pub record SentAlike (r r' : Result Sent SendFault) (b b' : List ℕ) (t t' : Talker) : Type 0 where
  pub answer : r ≡ r'
  pub bytes : b ≡ b'
  pub talker : t ≡ t'

abbrev pub OneSending : {U : Type 0} → Desk U → Type 0
OneSending {U} d = (s : Score U) (v : Talker) (c : ℕ) (bytes : List ℕ) (r r' : Result Sent SendFault) (b b' : List ℕ) (t t' : Talker)
    → Sends d s v c bytes r b t → Sends d s v c bytes r' b' t' → SentAlike r r' b b' t t'

-- one input of a hearing has one result
pub record HeardAlike {U : Type 0} (r r' : Result Heard PacketFault) (b b' : List U) (t t' : Listener) : Type 0 where
  pub answer : r ≡ r'
  pub list : b ≡ b'
  pub listener : t ≡ t'

abbrev pub OneHearing : {U : Type 0} → Stream U → Type 0
OneHearing {U} s = (c : ℕ) (packet : List ℕ) (v : Listener) (list : List U) (r r' : Result Heard PacketFault) (b b' : List U) (t t' : Listener)
    → Hears s c packet v list r b t → Hears s c packet v list r' b' t' → HeardAlike r r' b b' t t'

-- the law of two listeners, from the making on, over sends and hearings that have one result each
pub record Lawful {U : Type 0} (d : Desk U) : Type 0 where
  pub keeps_the_law : LawFromTheMaking d
  pub one_sending : OneSending d
  pub one_hearing : OneHearing d.stream
