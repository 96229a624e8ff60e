-- A talker and a score as contracts speak of them.
use Rattle.std.specs.Prelude.{◌≡◌, ℕ, List}
use Rattle.kinds.specs.declared.kind.Kind.{Ghosts}
use Rattle.plans.specs.Streams.{stream}
use Rattle.talkers.specs.declared.talker.Talker.{Talker}
use Rattle.talkers.specs.Sending.{Desk, State, Score}

-- what a talker is made of, for a method that means this
abbrev pub desk : {X M U : Type 0} {K : Ghosts X U} → (ℕ → ℕ → ℕ) → Talker X M U K → Desk U
desk takes t = record { stream = stream t.plan; takes = takes; sid = t.sid; delay = t.delay }

-- what it keeps
abbrev pub state : {X M U : Type 0} {K : Ghosts X U} → Talker X M U K → State
state t = record { place = t.place; last = t.last }

-- two talkers are made of the same
pub record SameDesk {X M U : Type 0} {K : Ghosts X U} (t u : Talker X M U K) : Type 0 where
  pub plan : u.plan ≡ t.plan
  pub method : u.method ≡ t.method
  pub sid : u.sid ≡ t.sid
  pub delay : u.delay ≡ t.delay

abbrev pub score_of : {U : Type 0} → List ℕ → List U → Score U
score_of arrivals units = record { arrivals = arrivals; units = units }
