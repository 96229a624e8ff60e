-- What reading a row into a list tells of a hearing.
use Rattle.std.proofs.Common.{◌≡◌, ℕ, ◌+◌, ◌*◌, ◌<◌, ◌≤◌, Bool, true, false, cond, ltb, List, length, drop, Some, None, Ok, Err, Result, sym, refl, ap, ◌∙◌, arith}
use Rattle.std.proofs.lemmas.Nat.{mul-le}
use Rattle.faults.specs.declared.located.Located.{Located}
use Rattle.faults.specs.declared.packets.PacketFault.{PacketFault}
use Rattle.faults.specs.declared.packets.PacketFault.TheVariants.{List as ListCase}
use Rattle.faults.specs.declared.units.UnitFault.{UnitFault}
use Rattle.faults.specs.Packets.{carried}
use Rattle.plans.specs.Streams.{Stream, unit_bytes}
use Rattle.units.specs.declared.fault.RowFault.{RowFault}
use Rattle.units.specs.declared.fault.RowFault.TheVariants.{List as ListRow, Unit as UnitRow}
use Rattle.units.specs.Rows.{row, read_answer, over, row_answer, row_left}
use Rattle.listeners.specs.Hearing.{position_of, unit_refusal, list_refusal, read_refusal, units_of, Reads}

-- the unit at an index stands inside the packet
pub unit_inside : (bytes n index len : ℕ) → index < n → 8 + bytes * n ≤ len → len ≤ 4096 → 8 + bytes * index ≤ 4096
unit_inside bytes n index len h k l = omega (arith, mul-le bytes index bytes n (omega arith) (omega arith))

module _ {U : Type 0} (s : Stream U) (list list' : List U) where
  abbrev fault : Located ℕ UnitFault → PacketFault
  fault at = carried (record { position = position_of (unit_bytes s) s.dimension at.position; fault = at.fault })

  by_ok : (n : ℕ) (b : Bool) (u : Result (List U) (Located ℕ UnitFault)) → ◌≡◌ {A = Result (Unit {0}) RowFault} (Ok tt) (cond b (Err ListRow) (read_answer u)) → list' ≡ cond b list (over n u list)
      → (cond b (Some ListCase) (unit_refusal s u) ≡ None) × (list' ≡ over n u list)
  by_ok n true u e l = let z : ◌≡◌ {A = ℕ} 0 1 = cc in absurd (omega arith)
  by_ok n false (Ok us) e l = (refl, l)
  by_ok n false (Err at) e l = let z : ◌≡◌ {A = ℕ} 0 1 = cc in absurd (omega arith)

  by_unit : (n : ℕ) (b : Bool) (u : Result (List U) (Located ℕ UnitFault)) (at : Located ℕ UnitFault) → ◌≡◌ {A = Result (Unit {0}) RowFault} (Err (UnitRow at)) (cond b (Err ListRow) (read_answer u)) → list' ≡ cond b list (over n u list)
      → (cond b (Some ListCase) (unit_refusal s u) ≡ Some (fault at)) × (list' ≡ list) × (u ≡ Err at)
  by_unit n true u at e l = let z : ◌≡◌ {A = ℕ} 0 1 = cc in absurd (omega arith)
  by_unit n false (Ok us) at e l = let z : ◌≡◌ {A = ℕ} 0 1 = cc in absurd (omega arith)
  by_unit n false (Err k) at e l = let d : k ≡ at = cc in (ap (λ x. Some (fault x)) d, l, ap Err d)

  -- the row of a packet's blocks, as the code counts and cuts it
  module _ (blocks : ℕ) (packet : List ℕ) (n : ℕ) (bs : List ℕ) (count : n ≡ s.dimension * blocks) (part : bs ≡ drop 8 packet) where
    abbrev units : Result (List U) (Located ℕ UnitFault)
    units = row (unit_bytes s) s.heard n bs

    same : units ≡ units_of s blocks packet
    same i = row (unit_bytes s) s.heard (count i) (part i)

    pub read_ok : Ok tt ≡ row_answer n units list → list' ≡ row_left n units list → Reads s blocks packet list list'
    read_ok e l =
        let r = by_ok n (ltb (length list) n) units e l in
        record { accepted = (λ i. list_refusal s (sym count i) (sym same i) (length list)) ∙ r.0; left = r.1 ∙ (λ i. over (count i) (same i) list) }

    pub read_unit : (at : Located ℕ UnitFault) → Err (UnitRow at) ≡ row_answer n units list → list' ≡ row_left n units list
        → (read_refusal s blocks packet (length list) ≡ Some (fault at)) × (list' ≡ list) × (units ≡ Err at)
    read_unit at e l =
        let r = by_unit n (ltb (length list) n) units at e l in
        ((λ i. list_refusal s (sym count i) (sym same i) (length list)) ∙ r.0, r.1, r.2)
