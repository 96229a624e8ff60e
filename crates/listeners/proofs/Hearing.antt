-- What is known of a packet that is weighed, and how a hearing follows from its steps.
use Rattle.std.proofs.Common.{◌≡◌, ℕ, ◌+◌, ◌*◌, ◌≤◌, false, List, length, Some, None, Ok, Err, Option, sym, ap, ◌∙◌, subst, mul_assoc, mul-zero, arith}
use Rattle.std.specs.Option.{option_or}
use Rattle.std.proofs.lemmas.Bool.{cond_both, leb-false}
use Rattle.clock.specs.Cycles.{not_later}
use Rattle.faults.specs.declared.packets.PacketFault.{PacketFault}
use Rattle.faults.specs.declared.packets.PacketFault.TheVariants.{Cycle}
use Rattle.faults.proofs.Outcomes.{none_refused}
use Rattle.faults.specs.Outcomes.{answered, changed}
use Rattle.packets.specs.Sorting.{idle, refusal}
use Rattle.packets.proofs.Sound.{sorted_long, sorted_short, sorted_few, sorted_whole}
use Rattle.plans.specs.Streams.{Stream, block_bytes}
use Rattle.plans.proofs.Intervals.{interval_most}
use Rattle.listeners.specs.declared.heard.Heard.{Heard}
use Rattle.listeners.specs.Cycles.{cycles_to}
use Rattle.listeners.specs.Hearing.{State, count, brought, next_state, read_refusal, filled, weigh_refusal, hear_refusal, Hears, Reads, Weighed}

-- a later cycle is beyond all cycles so far
pub cycles_before : (c : ℕ) (last : Option ℕ) → not_later c last ≡ false → cycles_to last ≤ c
cycles_before c None e = omega arith
cycles_before c (Some l) e = omega (arith, leb-false c l e)

module _ {U : Type 0} (s : Stream U) (packet : List ℕ) (e : refusal s packet ≡ None) where
  pub count_few : count s packet ≤ 32
  count_few = cond_both (idle packet) _ _ (λ n. n ≤ 32) (λ _. omega arith) (λ i. omega (arith, sorted_few s packet e i, interval_most s.sfc))

  pub count_whole : 8 + 4 * s.size * (s.dimension * count s packet) ≤ length packet
  count_whole =
      let h : 8 + block_bytes s * count s packet ≤ length packet =
      cond_both (idle packet) _ _ (λ n. 8 + block_bytes s * n ≤ length packet) (λ _. omega (arith, mul-zero (block_bytes s), sorted_long s packet e)) (λ _. sorted_whole s packet e) in
      omega (arith, mul_assoc (4 * s.size) s.dimension (count s packet))

-- what is known of a packet that is weighed
module _ {U : Type 0} (s : Stream U) (c : ℕ) (packet : List ℕ) (t : State) (h : Heard) (w : Weighed s c packet t h) where
  passed : (not_later c t.last ≡ false) × (refusal s packet ≡ None)
  passed = none_refused (not_later c t.last) Cycle (refusal s packet) w.accepted

  pub before : cycles_to t.last ≤ c
  before = cycles_before c t.last passed.0

  pub short : length packet ≤ 4096
  short = sorted_short s packet passed.1

  pub few : h.blocks ≤ 32
  few = subst (λ (x : Heard). x.blocks ≤ 32) (sym w.as_brought) (count_few s packet passed.1)

  pub whole : 8 + 4 * s.size * (s.dimension * h.blocks) ≤ length packet
  whole = subst (λ (x : Heard). 8 + 4 * s.size * (s.dimension * x.blocks) ≤ length packet) (sym w.as_brought) (count_whole s packet passed.1)

module _ {U : Type 0} (s : Stream U) (c : ℕ) (packet : List ℕ) (t : State) (list : List U) where
  refused : (f : PacketFault) → hear_refusal s c packet t (length list) ≡ Some f → Hears s c packet t list (Err f) list t
  refused f e = record {
    answer = λ i. answered (sym e i) (brought s c packet t);
    left = λ i. changed (sym e i) list (filled s (count s packet) packet list);
    state = λ i. changed (sym e i) t (next_state s c packet t);
  }

  -- a packet that is not weighed is not heard
  pub not_weighed : (f : PacketFault) → weigh_refusal s c packet t ≡ Some f → Hears s c packet t list (Err f) list t
  not_weighed f e = refused f (ap (λ o. option_or o (read_refusal s (count s packet) packet (length list))) e)

  -- one that is weighed is heard as its units are read
  module _ (h : Heard) (w : Weighed s c packet t h) where
    more : hear_refusal s c packet t (length list) ≡ read_refusal s h.blocks packet (length list)
    more = (λ i. option_or (w.accepted i) (read_refusal s (count s packet) packet (length list))) ∙ ap (λ (x : Heard). read_refusal s x.blocks packet (length list)) (sym w.as_brought)

    pub not_read : (f : PacketFault) → read_refusal s h.blocks packet (length list) ≡ Some f → Hears s c packet t list (Err f) list t
    not_read f e = refused f (more ∙ e)

    pub read : (list' : List U) → Reads s h.blocks packet list list'
        → Hears s c packet t list (Ok h) list' (record { next = h.first + h.blocks; heard = t.heard + h.blocks; missed = t.missed + h.gap; last = Some c })
    read list' r =
        let none = more ∙ r.accepted in
        record {
          answer = (λ i. Ok (w.as_brought i)) ∙ (λ i. answered (sym none i) (brought s c packet t));
          left = r.left ∙ ap (λ (x : Heard). filled s x.blocks packet list) w.as_brought ∙ (λ i. changed (sym none i) list (filled s (count s packet) packet list));
          state = ap (λ (x : Heard). record { next = x.first + x.blocks; heard = t.heard + x.blocks; missed = t.missed + x.gap; last = Some c }) w.as_brought ∙ (λ i. changed (sym none i) t (next_state s c packet t));
        }
