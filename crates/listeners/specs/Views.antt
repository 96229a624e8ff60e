-- A listener as contracts speak of it.
use Rattle.std.specs.Prelude.{◌≡◌, None}
use Rattle.kinds.specs.declared.kind.Kind.{Ghosts}
use Rattle.plans.specs.declared.plan.Plan.{Plan}
use Rattle.listeners.specs.declared.listener.Listener.{Listener}
use Rattle.listeners.specs.Hearing.{State}

abbrev pub state : {X U : Type 0} {K : Ghosts X U} → Listener X U K → State
state l = record { next = l.next; heard = l.heard; missed = l.missed; last = l.last }

abbrev pub fresh : State
fresh = record { next = 0; heard = 0; missed = 0; last = None }

-- a listener on this plan that has heard nothing
pub record Fresh {X U : Type 0} {K : Ghosts X U} (p : Plan X U K) (l : Listener X U K) : Type 0 where
  pub plan : l.plan ≡ p
  pub nothing : state l ≡ fresh
