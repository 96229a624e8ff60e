-- The packets that were sent: where each starts, and what holds of all of them.
use Rattle.std.proofs.Common.{◌≡◌, ℕ, zero, suc, ◌+◌, ◌-◌, ◌<◌, ◌≤◌, leb, ◌⊎◌, List, [], ◌∷◌, ◌++◌, length, get_or, take, drop, sym, ap, ◌∙◌, subst, subst₂, inl, inr, ⊎_elim, add-zero, arith, take-add}
use Rattle.std.proofs.lemmas.List.{length_push, take_all, take-append-le, take-take, get_or_append_left, get_or_push, get_or-drop, length-drop}
use Rattle.std.proofs.lemmas.List.Sums.{sum_by-append, sum_by_more, sum_by-take-le, prefix_len-le-length}
use Rattle.std.proofs.lemmas.Bool.{cases_lt}
use Rattle.clock.specs.Ticks.{start as tick}
use Rattle.plans.specs.Streams.{every}
use Rattle.talkers.specs.Sending.{Desk, Score, State as Talker, due}
use Rattle.streams.specs.Runs.{Packet, no_packet, packet_at, blocks, start}
use Rattle.streams.specs.Laws.{Holds, left_unsent}
use Rattle.streams.proofs.Lists.{due_in, due_least}
use Rattle.plans.proofs.Intervals.{interval_least}
use Rattle.streams.proofs.Accepted.{DeskLaws, Later, SendAccepted, taken}
use Rattle.streams.proofs.Trip.{SentWell, sent_packet}

pub start_more : (ps : List Packet) (j : ℕ) → j < length ps → start ps (j + 1) ≡ start ps j + (packet_at ps j).count
start_more ps j h = sum_by_more (λ (p : Packet). p.count) ps j no_packet h

pub start_rises : (ps : List Packet) (i j : ℕ) → i ≤ j → start ps i ≤ start ps j
start_rises ps i j h =
    subst (λ (l : List Packet). blocks l ≤ start ps j) (take-take i j ps h) (sum_by-take-le (λ (p : Packet). p.count) (take j ps) i)

pub start_push : (ps : List Packet) (q : Packet) (j : ℕ) → j ≤ length ps → start (ps ++ (q ∷ [])) j ≡ start ps j
start_push ps q j h = ap blocks (take-append-le j ps (q ∷ []) h)

pub start_all : (ps : List Packet) → start ps (length ps) ≡ blocks ps
start_all ps = ap blocks (take_all (length ps) ps (omega arith))

pub packet_push : (ps : List Packet) (q : Packet) (j : ℕ) → j < length ps → packet_at (ps ++ (q ∷ [])) j ≡ packet_at ps j
packet_push ps q j h = get_or_append_left ps (q ∷ []) no_packet j h

pub packet_last : (ps : List Packet) (q : Packet) (j : ℕ) → length ps ≡ j → packet_at (ps ++ (q ∷ [])) j ≡ q
packet_last ps q j e = get_or_push ps q no_packet j e

-- the blocks between two places in the order sent
pub start_between : (ps : List Packet) (i j : ℕ) → i ≤ j → start ps i + blocks (take (j - i) (drop i ps)) ≡ start ps j
start_between ps i j h =
    let e : i + (j - i) ≡ j = omega arith in
    sym (sum_by-append (λ (p : Packet). p.count) (take i ps) (take (j - i) (drop i ps))) ∙ ap blocks (sym (take-add i (j - i) ps)) ∙ ap (start ps) e

-- a number is held by one packet at most
pub held_once : (ps : List Packet) (i j n : ℕ) → Holds ps i n → Holds ps j n → i ≡ j
held_once ps i j n a b =
    let below : ¬ (i < j) = λ l. omega (arith, start_rises ps (i + 1) j (omega arith), start_more ps i a.was_sent, a.to, b.from) in
    let above : ¬ (j < i) = λ l. omega (arith, start_rises ps (j + 1) i (omega arith), start_more ps j b.was_sent, b.to, a.from) in
    omega arith

positive : {U : Type 0} (d : Desk U) → 1 ≤ every d.stream
positive d = omega (arith, interval_least d.stream.sfc)

module _ {U : Type 0} (d : Desk U) (s : Score U) (ok : DeskLaws d) where
  -- the talker, and the packets that it sent
  pub record Talks (ps : List Packet) (t : Talker) : Type 0 where
    pub well : (j : ℕ) → j < length ps → SentWell d s ok (start ps j) (packet_at ps j)
    pub rising : (i j : ℕ) → i < j → j < length ps → (packet_at ps i).cycle < (packet_at ps j).cycle
    pub place_is : t.place ≡ blocks ps
    pub last_least : (j c : ℕ) → j < length ps → Later c t.last → (packet_at ps j).cycle < c

  pub talks_on : (ps : List Packet) (t : Talker) (c : ℕ) (bytes : List ℕ) (count len : ℕ) (bytes' : List ℕ) (t' : Talker) → Talks ps t
      → SendAccepted d s t c bytes count len bytes' t' → Talks (ps ++ (record { cycle = c; bytes = take len bytes'; count = count } ∷ [])) t'
  talks_on ps t c bytes count len bytes' t' k a = record {
    well = λ j h. ⊎_elim (well_old j) (λ g. well_new j (omega (arith, long))) (cases_lt j (length ps));
    rising = λ i j l h. ⊎_elim (λ o. rising_old i j l o) (λ g. rising_new i j l (omega (arith, long))) (cases_lt j (length ps));
    place_is = a.place_is ∙ ap (λ n. n + count) k.place_is ∙ sym total;
    last_least = λ j c' h l. let l' : c < c' = subst (Later c') a.last_is l in
        ⊎_elim (λ o. subst (λ (p : Packet). p.cycle < c') (sym (packet_push ps q j o)) (omega (arith, k.last_least j c o a.later)))
        (λ g. subst (λ (p : Packet). p.cycle < c') (sym (packet_last ps q j (omega (arith, long)))) l') (cases_lt j (length ps));
  }
    where
      q : Packet
      q = record { cycle = c; bytes = take len bytes'; count = count }

      long : length (ps ++ (q ∷ [])) ≡ length ps + 1
      long = length_push ps q

      total : blocks (ps ++ (q ∷ [])) ≡ blocks ps + count
      total = sum_by-append (λ (p : Packet). p.count) ps (q ∷ []) ∙ omega arith

      well_old : (j : ℕ) → j < length ps → SentWell d s ok (start (ps ++ (q ∷ [])) j) (packet_at (ps ++ (q ∷ [])) j)
      well_old j h = subst₂ (SentWell d s ok) (sym (start_push ps q j (omega arith))) (sym (packet_push ps q j h)) (k.well j h)

      well_new : (j : ℕ) → length ps ≡ j → SentWell d s ok (start (ps ++ (q ∷ [])) j) (packet_at (ps ++ (q ∷ [])) j)
      well_new j e = subst₂ (SentWell d s ok)
          (k.place_is ∙ sym (start_all ps) ∙ ap (start ps) e ∙ sym (start_push ps q j (omega arith)))
          (sym (packet_last ps q j e))
          (sent_packet d s ok t c bytes count len bytes' t' a)

      rising_old : (i j : ℕ) → i < j → j < length ps → (packet_at (ps ++ (q ∷ [])) i).cycle < (packet_at (ps ++ (q ∷ [])) j).cycle
      rising_old i j l h = subst₂ (λ (x y : Packet). x.cycle < y.cycle) (sym (packet_push ps q i (omega arith))) (sym (packet_push ps q j h)) (k.rising i j l h)

      rising_new : (i j : ℕ) → i < j → length ps ≡ j → (packet_at (ps ++ (q ∷ [])) i).cycle < (packet_at (ps ++ (q ∷ [])) j).cycle
      rising_new i j l e = subst₂ (λ (x y : Packet). x.cycle < y.cycle) (sym (packet_push ps q i (omega arith))) (sym (packet_last ps q j e))
          (k.last_least i c (omega arith) a.later)

  module _ (ps : List Packet) (t : Talker) (k : Talks ps t) where
    -- the first number that was not due at a packet's cycle
    abbrev horizon : ℕ → ℕ
    horizon j = start ps j + due (tick (packet_at ps j).cycle) (drop (start ps j) s.arrivals)

    horizon_arrived : (j : ℕ) → j < length ps → (n : ℕ) → start ps j ≤ n → n < horizon j → (n < length s.arrivals) × (get_or s.arrivals n 0 ≤ tick (packet_at ps j).cycle)
    horizon_arrived j h n from to =
        let r = due_in (tick (packet_at ps j).cycle) (drop (start ps j) s.arrivals) (n - start ps j) (omega arith) in
        let e : start ps j + (n - start ps j) ≡ n = omega arith in (
          omega (arith, r.0, length-drop (start ps j) s.arrivals),
          subst (λ m. m ≤ tick (packet_at ps j).cycle) (get_or-drop (start ps j) s.arrivals (n - start ps j) 0 ∙ ap (λ m. get_or s.arrivals m 0) e) r.1,
        )

    -- what was due at a packet stays due at each later one
    still_due : (j i : ℕ) → j < i → i < length ps → horizon j ≤ horizon i
    still_due j i l h =
        ⊎_elim
        (λ past. omega arith)
        (λ before.
        let m : ℕ = horizon j - start ps i in
        let later : (packet_at ps j).cycle < (packet_at ps i).cycle = k.rising j i l h in
        let onward : start ps j ≤ start ps i = start_rises ps j i (omega arith) in
        let each : (n : ℕ) → n < m → get_or (drop (start ps i) s.arrivals) n 0 ≤ tick (packet_at ps i).cycle = λ n b.
        let r = horizon_arrived j (omega arith) (start ps i + n) (omega arith) (omega arith) in
        subst (λ x. x ≤ tick (packet_at ps i).cycle) (sym (get_or-drop (start ps i) s.arrivals n 0)) (omega (arith, r.1)) in
        let long : horizon j ≤ length s.arrivals =
        omega (arith, prefix_len-le-length (λ a. leb a (tick (packet_at ps j).cycle)) (drop (start ps j) s.arrivals), length-drop (start ps j) s.arrivals, (k.well j (omega arith)).reached) in
        let least : m ≤ due (tick (packet_at ps i).cycle) (drop (start ps i) s.arrivals) =
        due_least (tick (packet_at ps i).cycle) (drop (start ps i) s.arrivals) m (omega (arith, length-drop (start ps i) s.arrivals)) each in
        omega arith)
        (cases_lt (horizon j) (start ps i))

    -- a packet sent while a whole interval is due holds a block
    moves_on : (i : ℕ) → i < length ps → start ps i + every d.stream ≤ horizon i → 1 ≤ (packet_at ps i).count
    moves_on i h l =
        subst (λ n. 1 ≤ n) (sym (k.well i h).count_is)
        (ok.moves (due (tick (packet_at ps i).cycle) (drop (start ps i) s.arrivals)) (every d.stream) (positive d) (omega arith))

    catches_up : (j m : ℕ) → j + 1 + m ≤ length ps
        → (horizon j < start ps (j + 1 + m) + every d.stream) ⊎ (start ps (j + 1) + m ≤ start ps (j + 1 + m))
    catches_up j zero h = inr (simp add-zero (omega arith))
    catches_up j (suc m) h =
        let i : ℕ = j + 1 + m in
        let e : j + 1 + suc m ≡ i + 1 = omega arith in
        let more : start ps (i + 1) ≡ start ps i + (packet_at ps i).count = start_more ps i (omega arith) in
        let due_still : horizon j ≤ horizon i = still_due j i (omega arith) (omega arith) in
        subst (λ x. (horizon j < start ps x + every d.stream) ⊎ (start ps (j + 1) + suc m ≤ start ps x)) (sym e)
        (⊎_elim (λ near. inl (omega arith))
        (λ far. ⊎_elim (λ near. inl (omega arith)) (λ whole. inr (omega (arith, moves_on i (omega arith) (omega arith))))
        (cases_lt (horizon j) (start ps i + every d.stream)))
        (catches_up j m (omega arith)))

    pub left_come : (j : ℕ) → j < length ps → (r : ℕ) → r ≤ length ps → j + 1 + left_unsent s ps j ≤ r
        → start ps j + (packet_at ps j).count + left_unsent s ps j < start ps r + every d.stream
    left_come j h r most reach =
        let m : ℕ = left_unsent s ps j in
        let more : start ps (j + 1) ≡ start ps j + (packet_at ps j).count = start_more ps j h in
        let count_due : taken d s (start ps j) (packet_at ps j).cycle ≤ due (tick (packet_at ps j).cycle) (drop (start ps j) s.arrivals) =
        ok.at_most_due (due (tick (packet_at ps j).cycle) (drop (start ps j) s.arrivals)) (every d.stream) in
        let is : (packet_at ps j).count ≡ taken d s (start ps j) (packet_at ps j).cycle = (k.well j h).count_is in
        let rises : start ps (j + 1 + m) ≤ start ps r = start_rises ps (j + 1 + m) r reach in
        ⊎_elim (λ near. omega arith) (λ far. omega (arith, positive d)) (catches_up j m (omega arith))
