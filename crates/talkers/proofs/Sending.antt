-- A send from its parts.
use Rattle.std.proofs.Common.{◌≡◌, ℕ, ◌+◌, ◌*◌, ◌%◌, ◌≤◌, true, false, ltb, List, ◌++◌, length, take, drop, Some, None, Ok, Err, Option, sym, ap, ◌∙◌, subst, mul_assoc, arith}
use Rattle.std.proofs.lemmas.Nat.{mul-le}
use Rattle.std.proofs.lemmas.List.{length-drop, length-take-le}
use Rattle.std.proofs.lemmas.Bool.{cond-true, cond-false, or_parts, not-false, eqb-true, ltb-false}
use Rattle.std.specs.List.{flat_map}
use Rattle.clock.specs.Cycles.{not_later}
use Rattle.faults.specs.Outcomes.{answered, changed}
use Rattle.kinds.specs.Codes.{laid}
use Rattle.packets.specs.Headers.{header_bytes}
use Rattle.plans.specs.Streams.{every, dbs, fdf, block_bytes}
use Rattle.talkers.specs.declared.fault.SendFault.{SendFault}
use Rattle.talkers.specs.declared.fault.SendFault.TheVariants.{Room}
use Rattle.talkers.specs.Sending.{Desk, State, Score, syt_for, bad_score, blocks, packet_length, packet, send_refusal, Sends}

-- the units of blocks that the score has
pub units_there : (dimension place blocks n units : ℕ) → place + blocks ≤ n → units ≡ dimension * n → dimension * (place + blocks) ≤ units
units_there dimension place blocks n units h e = omega (arith, mul-le dimension (place + blocks) dimension n (omega arith) h)

pub units_length : {U : Type 0} (dimension place blocks : ℕ) (units : List U) → dimension * (place + blocks) ≤ length units → length (take (dimension * blocks) (drop (dimension * place) units)) ≡ dimension * blocks
units_length dimension place blocks units h = length-take-le (dimension * blocks) (drop (dimension * place) units) (rw length-drop (omega arith))

module _ {U : Type 0} (d : Desk U) (s : Score U) (t : State) (c : ℕ) where
  -- the parts of a good score
  pub record Good : Type 0 where
    pub few : length s.arrivals ≤ 65536
    pub fit : length s.units ≡ d.stream.dimension * length s.arrivals
    pub reached : t.place ≤ length s.arrivals

  pub good : bad_score d s t ≡ false → Good
  good e =
      let p = or_parts _ _ e in
      let q = or_parts _ _ p.1 in
      record { few = ltb-false _ _ p.0; fit = eqb-true _ _ (not-false _ q.0); reached = ltb-false _ _ q.1 }

  module _ (score : bad_score d s t ≡ false) (later : not_later c t.last ≡ false) (bytes : List ℕ) where
    -- a send with this refusal, or none
    by_refusal : (o : Option SendFault) → send_refusal d s t c (length bytes) ≡ o
        → Sends d s t c bytes (answered o (record { blocks = blocks d s t c; length = packet_length d s t c })) (changed o bytes (packet d s t c ++ drop (packet_length d s t c) bytes)) (changed o t (record { place = t.place + blocks d s t c; last = Some c }))
    by_refusal o r = record {
      answer = λ i. answered (sym r i) (record { blocks = blocks d s t c; length = packet_length d s t c });
      left = λ i. changed (sym r i) bytes (packet d s t c ++ drop (packet_length d s t c) bytes);
      state = λ i. changed (sym r i) t (record { place = t.place + blocks d s t c; last = Some c });
    }

    -- what the method took, and its units
    module _ (n : ℕ) (units : List U) (v : n ≡ blocks d s t c) (us : units ≡ take (d.stream.dimension * n) (drop (d.stream.dimension * t.place) s.units)) (inside : t.place + n ≤ length s.arrivals) where
      length_is : 8 + 4 * d.stream.size * length units ≡ packet_length d s t c
      length_is =
          let there = units_there d.stream.dimension t.place n (length s.arrivals) (length s.units) inside (good score).fit in
          let l : length units ≡ d.stream.dimension * n = ap length us ∙ units_length d.stream.dimension t.place n s.units there in
          ap (λ k. 8 + 4 * d.stream.size * k) l ∙ ap (λ k. 8 + k) (sym (mul_assoc (4 * d.stream.size) d.stream.dimension n)) ∙ ap (λ k. 8 + block_bytes d.stream * k) v

      pub sends_no_room : ltb (length bytes) (8 + 4 * d.stream.size * length units) ≡ true → Sends d s t c bytes (Err Room) bytes t
      sends_no_room e = by_refusal (Some Room) (cond-false _ _ _ score ∙ cond-false _ _ _ later ∙ cond-true _ _ _ (ap (ltb (length bytes)) (sym length_is) ∙ e))

      pub sends_packet : (len : ℕ) (header last : List ℕ) → len ≡ 8 + block_bytes d.stream * n
          → header ≡ header_bytes d.sid (dbs d.stream) (t.place % 256) (fdf d.stream) (syt_for (every d.stream) d.delay s.arrivals t.place n c)
          → ltb (length bytes) (8 + 4 * d.stream.size * length units) ≡ false
          → last ≡ laid (8 + 4 * d.stream.size * length units) (header ++ flat_map d.stream.code units) bytes
          → Sends d s t c bytes (Ok (record { blocks = n; length = len })) last (record { place = t.place + n; last = Some c })
      sends_packet len header last l h e w =
          let whole = by_refusal None (cond-false _ _ _ score ∙ cond-false _ _ _ later ∙ cond-false _ _ _ (ap (ltb (length bytes)) (sym length_is) ∙ e)) in
          let front : ℕ → List ℕ = λ m. header_bytes d.sid (dbs d.stream) (t.place % 256) (fdf d.stream) (syt_for (every d.stream) d.delay s.arrivals t.place m c) in
          let row : ℕ → List ℕ = λ m. flat_map d.stream.code (take (d.stream.dimension * m) (drop (d.stream.dimension * t.place) s.units)) in
          let wrote : last ≡ packet d s t c ++ drop (packet_length d s t c) bytes =
          w ∙ cond-false _ _ _ e ∙ (λ i. (h i ++ flat_map d.stream.code (us i)) ++ drop (length_is i) bytes) ∙ ap (λ m. (front m ++ row m) ++ drop (packet_length d s t c) bytes) v in
          let P : ℕ → ℕ → List ℕ → Type 0 = λ m k b. Sends d s t c bytes (Ok (record { blocks = m; length = k })) b (record { place = t.place + m; last = Some c }) in
          subst (λ m. P m len last) (sym v) (subst (λ k. P (blocks d s t c) k last) (sym (l ∙ ap (λ m. 8 + block_bytes d.stream * m) v)) (subst (λ b. P (blocks d s t c) (packet_length d s t c) b) (sym wrote) whole))
