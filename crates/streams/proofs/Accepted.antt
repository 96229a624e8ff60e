-- What an accepted send and an accepted hearing are, part by part.
use Rattle.std.proofs.Common.{◌≡◌, ℕ, ◌+◌, ◌*◌, ◌%◌, ◌<◌, ◌≤◌, false, ltb, List, ◌++◌, length, take, drop, Some, None, Ok, Err, Option, Result, sym, refl, ap, ◌∙◌, arith}
use Rattle.std.specs.List.{flat_map}
use Rattle.std.proofs.lemmas.Bool.{leb-false}
use Rattle.clock.specs.Counts.{gap_to}
use Rattle.clock.specs.Cycles.{not_later}
use Rattle.clock.specs.Ticks.{start as tick}
use Rattle.faults.specs.declared.located.Located.{Located}
use Rattle.faults.specs.declared.packets.PacketFault.{PacketFault}
use Rattle.faults.specs.declared.units.UnitFault.{UnitFault}
use Rattle.faults.specs.Outcomes.{changed}
use Rattle.faults.proofs.Outcomes.{was_ok, was_err, none_refused, neither_refused}
use Rattle.packets.specs.Headers.{header_bytes}
use Rattle.packets.specs.Sorting.{dbc_of, refusal}
use Rattle.plans.specs.Streams.{Stream, every, dbs, fdf, block_bytes}
use Rattle.talkers.specs.declared.fault.SendFault.{SendFault}
use Rattle.talkers.specs.declared.fault.SendFault.TheVariants.{Score as ScoreFault, Cycle as CycleFault}
use Rattle.talkers.specs.declared.sent.Sent.{Sent}
use Rattle.talkers.specs.Sending.{Desk, Score, State as Talker, due, syt_for, bad_score, packet_length, send_refusal, Sends}
use Rattle.talkers.proofs.Sending.{good}
use Rattle.units.specs.Rows.{over}
use Rattle.listeners.specs.declared.heard.Heard.{Heard}
use Rattle.listeners.specs.Hearing.{State as Listener, count, units, time, next_state, unit_refusal, weigh_refusal, hear_refusal, Hears}

-- what a kind, a method and a plan keep, so far as runs need it
pub record DeskLaws {U : Type 0} (d : Desk U) : Type 0 where
  pub size_least : 1 ≤ d.stream.size
  pub code_length : (u : U) → length (d.stream.code u) ≡ 4 * d.stream.size
  pub back : (u : U) → d.stream.heard (d.stream.code u) ≡ Ok u
  pub at_most_due : (w i : ℕ) → d.takes w i ≤ w
  pub at_most_interval : (w i : ℕ) → d.takes w i ≤ i
  pub moves : (w i : ℕ) → 1 ≤ i → i ≤ w → 1 ≤ d.takes w i
  pub sfc_most : d.stream.sfc ≤ 6
  pub dim_least : 1 ≤ d.stream.dimension
  pub event_most : d.stream.event ≤ 3
  pub delay_most : d.delay ≤ 49151

abbrev pub Later : ℕ → Option ℕ → Type 0
Later c None = Unit {0}
Later c (Some l) = l < c

later : (c : ℕ) (o : Option ℕ) → not_later c o ≡ false → Later c o
later c None e = tt
later c (Some l) e = leb-false c l e

module _ {U : Type 0} (d : Desk U) (s : Score U) where
  -- the blocks taken at a place in a cycle, their units, and their packet
  abbrev pub taken : ℕ → ℕ → ℕ
  taken place c = d.takes (due (tick c) (drop place s.arrivals)) (every d.stream)

  abbrev pub units_of : ℕ → ℕ → List U
  units_of place n = take (d.stream.dimension * n) (drop (d.stream.dimension * place) s.units)

  abbrev pub stamp_of : ℕ → ℕ → ℕ → ℕ
  stamp_of place n c = syt_for (every d.stream) d.delay s.arrivals place n c

  abbrev pub wire : ℕ → ℕ → ℕ → List ℕ
  wire place n c = header_bytes d.sid (dbs d.stream) (place % 256) (fdf d.stream) (stamp_of place n c) ++ flat_map d.stream.code (units_of place n)

  pub record SendAccepted (t : Talker) (c : ℕ) (bytes : List ℕ) (n len : ℕ) (bytes' : List ℕ) (t' : Talker) : Type 0 where
    pub units_fit : length s.units ≡ d.stream.dimension * length s.arrivals
    pub reached : t.place ≤ length s.arrivals
    pub later : Later c t.last
    pub count_is : n ≡ taken t.place c
    pub len_is : len ≡ 8 + block_bytes d.stream * n
    pub written : bytes' ≡ wire t.place n c ++ drop len bytes
    pub place_is : t'.place ≡ t.place + n
    pub last_is : t'.last ≡ Some c

  pub sent_accepted : (t : Talker) (c : ℕ) (bytes : List ℕ) (n len : ℕ) (bytes' : List ℕ) (t' : Talker)
      → Sends d s t c bytes (Ok (record { blocks = n; length = len })) bytes' t' → SendAccepted t c bytes n len bytes' t'
  sent_accepted t c bytes n len bytes' t' h =
      let o = was_ok (send_refusal d s t c (length bytes)) _ _ h.answer in
      let a = none_refused (bad_score d s t) ScoreFault _ o.0 in
      let b = none_refused (not_later c t.last) CycleFault _ a.1 in
      let g = good d s t c a.0 in
      let count : n ≡ taken t.place c = ap (λ (x : Sent). x.blocks) o.1 in
      let long : len ≡ packet_length d s t c = ap (λ (x : Sent). x.length) o.1 in
      let left : bytes' ≡ wire t.place (taken t.place c) c ++ drop (packet_length d s t c) bytes = h.left ∙ ap (λ r. changed r bytes (wire t.place (taken t.place c) c ++ drop (packet_length d s t c) bytes)) o.0 in
      let state : t' ≡ record { place = t.place + taken t.place c; last = Some c } = h.state ∙ ap (λ r. changed r t (record { place = t.place + taken t.place c; last = Some c })) o.0 in
      record {
        units_fit = g.fit;
        reached = g.reached;
        later = later c t.last b.0;
        count_is = count;
        len_is = long ∙ ap (λ m. 8 + block_bytes d.stream * m) (sym count);
        written = left ∙ (λ i. wire t.place (sym count i) c ++ drop (sym long i) bytes);
        place_is = ap (λ (x : Talker). x.place) state ∙ ap (λ m. t.place + m) (sym count);
        last_is = ap (λ (x : Talker). x.last) state;
      }

  pub send_unchanged : (t : Talker) (c : ℕ) (bytes : List ℕ) (f : SendFault) (bytes' : List ℕ) (t' : Talker) → Sends d s t c bytes (Err f) bytes' t' → t' ≡ t
  send_unchanged t c bytes f bytes' t' h =
      let o = was_err (send_refusal d s t c (length bytes)) _ f h.answer in
      h.state ∙ ap (λ r. changed r t (record { place = t.place + taken t.place c; last = Some c })) o

module _ {U : Type 0} (s : Stream U) (c : ℕ) (packet : List ℕ) (t : Listener) (list : List U) where
  pub record HearAccepted (a : Heard) (list' : List U) (t' : Listener) : Type 0 where
    pub sorted : refusal s packet ≡ None
    pub read : List U
    pub read_is : units s packet ≡ Ok read
    pub written : list' ≡ read ++ drop (s.dimension * count s packet) list
    pub gap_is : a.gap ≡ gap_to t.next (dbc_of packet)
    pub first_is : a.first ≡ t.next + a.gap
    pub count_is : a.blocks ≡ count s packet
    pub time_is : a.time ≡ time c packet
    pub next_is : t'.next ≡ a.first + a.blocks
    pub heard_is : t'.heard ≡ t.heard + a.blocks
    pub missed_is : t'.missed ≡ t.missed + a.gap

  was_read : (u : Result (List U) (Located ℕ UnitFault)) → unit_refusal s u ≡ None → (us : List U) × (u ≡ Ok us)
  was_read (Ok us) e = (us, refl)
  was_read (Err at) e = let z : ◌≡◌ {A = ℕ} 0 1 = cc in absurd (omega arith)

  pub heard_accepted : (a : Heard) (list' : List U) (t' : Listener) → Hears s c packet t list (Ok a) list' t' → HearAccepted a list' t'
  heard_accepted a list' t' h =
      let o = was_ok (hear_refusal s c packet t (length list)) _ _ h.answer in
      let e = neither_refused (weigh_refusal s c packet t) _ o.0 in
      let w = none_refused (not_later c t.last) _ (refusal s packet) e.0 in
      let l = none_refused (ltb (length list) (s.dimension * count s packet)) _ (unit_refusal s (units s packet)) e.1 in
      let r = was_read (units s packet) l.1 in
      let n = s.dimension * count s packet in
      let state : t' ≡ next_state s c packet t = h.state ∙ ap (λ x. changed x t (next_state s c packet t)) o.0 in
      let b = o.1 in
      record {
        sorted = w.1;
        read = r.0;
        read_is = r.1;
        written = h.left ∙ ap (λ x. changed x list (over n (units s packet) list)) o.0 ∙ ap (λ u. over n u list) r.1;
        gap_is = ap (λ (x : Heard). x.gap) b;
        first_is = ap (λ (x : Heard). x.first) b ∙ ap (λ m. t.next + m) (sym (ap (λ (x : Heard). x.gap) b));
        count_is = ap (λ (x : Heard). x.blocks) b;
        time_is = ap (λ (x : Heard). x.time) b;
        next_is = ap (λ (x : Listener). x.next) state ∙ (λ i. sym (ap (λ (x : Heard). x.first) b) i + sym (ap (λ (x : Heard). x.blocks) b) i);
        heard_is = ap (λ (x : Listener). x.heard) state ∙ ap (λ m. t.heard + m) (sym (ap (λ (x : Heard). x.blocks) b));
        missed_is = ap (λ (x : Listener). x.missed) state ∙ ap (λ m. t.missed + m) (sym (ap (λ (x : Heard). x.gap) b));
      }

  pub hear_unchanged : (f : PacketFault) (list' : List U) (t' : Listener) → Hears s c packet t list (Err f) list' t' → t' ≡ t
  hear_unchanged f list' t' h =
      let o = was_err (hear_refusal s c packet t (length list)) _ f h.answer in
      h.state ∙ ap (λ r. changed r t (next_state s c packet t)) o
