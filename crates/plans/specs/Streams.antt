-- A stream as contracts speak of it: the meaning of its kind, and the numbers of its plan.
use Rattle.std.specs.Prelude.{ℕ, ◌+◌, ◌*◌, List, Result}
use Rattle.faults.specs.declared.units.UnitFault.{UnitFault}
use Rattle.kinds.specs.declared.kind.Kind.{Ghosts}
use Rattle.plans.specs.declared.plan.Plan.{Plan}
use Rattle.plans.specs.Rates.{interval}

pub record Stream (U : Type 0) : Type 0 where
  pub size : ℕ
  pub code : U → List ℕ
  pub heard : List ℕ → Result U UnitFault
  pub event : ℕ
  pub sfc : ℕ
  pub dimension : ℕ

-- the stream of a plan
abbrev pub stream : {X U : Type 0} {K : Ghosts X U} → Plan X U K → Stream U
stream {K = K} p =
    record { size = K.size; code = K.code; heard = K.heard; event = K.EVT; sfc = p.sfc; dimension = p.dimension }

module _ {U : Type 0} (s : Stream U) where
  -- SYT_INTERVAL
  abbrev pub every : ℕ
  every = interval s.sfc

  -- DBS and FDF
  abbrev pub dbs : ℕ
  dbs = s.dimension * s.size

  abbrev pub fdf : ℕ
  fdf = 16 * s.event + s.sfc

  -- the bytes of a unit and of a block
  abbrev pub unit_bytes : ℕ
  unit_bytes = 4 * s.size

  abbrev pub block_bytes : ℕ
  block_bytes = 4 * s.size * s.dimension
