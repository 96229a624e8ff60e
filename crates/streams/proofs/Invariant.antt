-- What holds of a listener, whichever packets it accepted so far.
use Rattle.std.proofs.Common.{◌≡◌, ℕ, zero, suc, ◌+◌, ◌-◌, ◌<◌, ◌≤◌, cond, eqb, ◌≢◌, ◌⊎◌, ◌↔◌, List, [], ◌∷◌, ◌++◌, map, length, take, drop, Some, None, sym, refl, ap, ◌∙◌, subst, ap₂, inl, inr, ⊎_elim, add_assoc, arith}
use Rattle.std.specs.List.{AllByRecursion, range_with_len}
use Rattle.std.proofs.lemmas.List.{length_push, length-append, map-append}
use Rattle.std.proofs.lemmas.List.FromFn.{length-range_with_len, length-map-range_with_len}
use Rattle.std.proofs.ByRecursion.{All-append, All-weaker}
use Rattle.std.proofs.lemmas.Bool.{cases_lt, cond-true, cond-false, eq-eqb, ne_eqb}
use Rattle.plans.specs.Streams.{Stream}
use Rattle.talkers.specs.Sending.{Desk, Score}
use Rattle.listeners.specs.declared.heard.Heard.{Heard}
use Rattle.listeners.specs.Hearing.{State as Listener}
use Rattle.streams.specs.Runs.{Packet, packet_at, blocks, start, Block, block_heard, blocks_heard}
use Rattle.streams.specs.Laws.{times, Holds, time_due, DueATime, AsInScore}
use Rattle.streams.proofs.Lists.{times_append, times_in, times_out}
use Rattle.streams.proofs.Accepted.{DeskLaws, HearAccepted}
use Rattle.streams.proofs.Trip.{SentWell, HeardWell, heard_back, BlockRight, blocks_back}
use Rattle.streams.proofs.Packets.{start_more, start_rises, start_push, packet_push, start_between, held_once}

-- how often a number stands in a row of numbers
pub row : (n a k : ℕ) → ((times n (range_with_len a k) ≡ 1) × (a ≤ n) × (n < a + k)) ⊎ (((times n (range_with_len a k) ≡ 0) × (n < a)) ⊎ ((times n (range_with_len a k) ≡ 0) × (a + k ≤ n)))
row n a k = ⊎_elim
    (λ l. inr (inl (times_out n a k (inl l), l)))
    (λ g. ⊎_elim (λ l. inl (times_in n a k g l, g, l)) (λ h. inr (inr (times_out n a k (inr h), h))) (cases_lt n (a + k)))
    (cases_lt n a)

-- how often a number stands in a list of one
pub one_yes : (n m : ℕ) → n ≡ m → times n (m ∷ []) ≡ 1
one_yes n m e = let here : ◌≡◌ {A = ℕ} (cond (eqb n m) 1 0) 1 = cond-true (eqb n m) 1 0 (eq-eqb n m e) in omega arith

pub one_no : (n m : ℕ) → n ≢ m → times n (m ∷ []) ≡ 0
one_no n m e = let here : ◌≡◌ {A = ℕ} (cond (eqb n m) 1 0) 0 = cond-false (eqb n m) 1 0 (ne_eqb n m e) in omega arith

abbrev pub number_of : {U : Type 0} → Block U → ℕ
number_of b = b.number

numbers_row : {U : Type 0} (p : Stream U) (packet : List ℕ) (a : Heard) (list' : List U) (i k : ℕ)
    → map number_of (map (block_heard p packet a list') (range_with_len i k)) ≡ range_with_len (a.first + i) k
numbers_row p packet a list' i zero = refl
numbers_row p packet a list' i (suc k) =
    ap (λ l. (a.first + i) ∷ l) (numbers_row p packet a list' (i + 1) k ∙ ap (λ n. range_with_len n k) (sym (add_assoc a.first i 1)))

module _ {U : Type 0} (d : Desk U) (s : Score U) (ok : DeskLaws d) where
  -- what a listener did so far: how many packets it went past, what it handed out and named missing, and which packets it accepted
  pub record Listens (ps : List Packet) (r : ℕ) (handed : List (Block U)) (named acc : List ℕ) (x : Listener) : Type 0 where
    pub reached_most : r ≤ length ps
    pub next_is : x.next ≡ start ps r
    pub heard_is : x.heard ≡ length handed
    pub missed_is : x.missed ≡ length named
    pub below : (n : ℕ) → n < start ps r → times n (map number_of handed) + times n named ≡ 1
    pub above : (n : ℕ) → start ps r ≤ n → times n (map number_of handed) + times n named ≡ 0
    pub right : AllByRecursion (AsInScore d s ps) handed
    pub missing : (j n : ℕ) → Holds ps j n → n < start ps r → (times n named ≡ 1) ↔ (times j acc ≡ 0)
    pub acc_below : (j : ℕ) → r ≤ j → times j acc ≡ 0

  -- one more packet is sent
  held_on : (ps : List Packet) (q : Packet) (j n : ℕ) → Holds ps j n → Holds (ps ++ (q ∷ [])) j n
  held_on ps q j n h = record {
    was_sent = omega (arith, h.was_sent, length_push ps q);
    from = omega (arith, h.from, start_push ps q j (omega (arith, h.was_sent)));
    to = omega (arith, h.to, start_push ps q j (omega (arith, h.was_sent)), ap (λ (p : Packet). p.count) (packet_push ps q j h.was_sent));
  }

  held_before : (ps : List Packet) (q : Packet) (r j n : ℕ) → r ≤ length ps → n < start ps r → Holds (ps ++ (q ∷ [])) j n → Holds ps j n
  held_before ps q r j n most l h = ⊎_elim
      (λ o. record {
        was_sent = o;
        from = omega (arith, h.from, start_push ps q j (omega arith));
        to = omega (arith, h.to, start_push ps q j (omega arith), ap (λ (p : Packet). p.count) (packet_push ps q j o));
      })
      (λ g. let last : j ≡ length ps = omega (arith, h.was_sent, length_push ps q) in
      absurd (omega (arith, h.from, start_push ps q j (omega arith), start_rises ps r j (omega arith))))
      (cases_lt j (length ps))

  as_in_score_on : (ps : List Packet) (q : Packet) (b : Block U) → AsInScore d s ps b → AsInScore d s (ps ++ (q ∷ [])) b
  as_in_score_on ps q b h =
      let same = sym (packet_push ps q h.packet h.held.was_sent) in
      record {
        of_score = h.of_score;
        units_are = h.units_are;
        packet = h.packet;
        held = held_on ps q h.packet b.number h.held;
        with_time = subst (λ (p : Packet). DueATime d s p.cycle b.number → b.time ≡ Some (time_due d s b.number)) same h.with_time;
        without_time = subst (λ (p : Packet). ¬ (DueATime d s p.cycle b.number) → b.time ≡ None) same h.without_time;
      }

  pub listens_on : (ps : List Packet) (q : Packet) (r : ℕ) (handed : List (Block U)) (named acc : List ℕ) (x : Listener) → Listens ps r handed named acc x
      → Listens (ps ++ (q ∷ [])) r handed named acc x
  listens_on ps q r handed named acc x k =
      let same : start (ps ++ (q ∷ [])) r ≡ start ps r = start_push ps q r k.reached_most in
      record {
        reached_most = omega (arith, k.reached_most, length_push ps q);
        next_is = k.next_is ∙ sym same;
        heard_is = k.heard_is;
        missed_is = k.missed_is;
        below = λ n l. k.below n (omega arith);
        above = λ n l. k.above n (omega arith);
        right = All-weaker (AsInScore d s ps) (AsInScore d s (ps ++ (q ∷ []))) (as_in_score_on ps q) handed k.right;
        missing = λ j n h l. k.missing j n (held_before ps q r j n k.reached_most (omega arith) h) (omega arith);
        acc_below = k.acc_below;
      }

  -- one more packet is accepted
  module _ (ps : List Packet) (r : ℕ) (handed : List (Block U)) (named acc : List ℕ) (x : Listener) (k : Listens ps r handed named acc x)
      (which : ℕ) (w : SentWell d s ok (start ps which) (packet_at ps which)) (was_sent : which < length ps) (onward : r ≤ which)
      (small : blocks (take (which - r) (drop r ps)) < 256)
      (list : List U) (a : Heard) (list' : List U) (x' : Listener)
      (h : HearAccepted d.stream (packet_at ps which).cycle (packet_at ps which).bytes x list a list' x') where
    abbrev q : Packet
    q = packet_at ps which

    abbrev g : ℕ
    g = blocks (take (which - r) (drop r ps))

    between : start ps r + g ≡ start ps which
    between = start_between ps r which onward

    well : HeardWell d s ok (start ps which) q g a list'
    well = heard_back d s ok (start ps which) q w x list a list' x' g (ap (λ n. n + g) k.next_is ∙ between) small h

    abbrev new_blocks : List (Block U)
    new_blocks = blocks_heard d.stream q.bytes a list'

    abbrev new_named : List ℕ
    new_named = range_with_len (a.first - a.gap) a.gap

    new_named_is : new_named ≡ range_with_len (start ps r) g
    new_named_is = ap₂ range_with_len (omega (arith, well.gap_is, well.first_is, between)) well.gap_is

    new_numbers_are : map number_of new_blocks ≡ range_with_len (start ps which) q.count
    new_numbers_are = numbers_row d.stream q.bytes a list' 0 a.blocks ∙ ap₂ range_with_len (omega (arith, well.first_is)) well.count_is

    more : start ps (which + 1) ≡ start ps which + q.count
    more = start_more ps which was_sent

    numbers_now : (n : ℕ) → times n (map number_of (handed ++ new_blocks)) ≡ times n (map number_of handed) + times n (range_with_len (start ps which) q.count)
    numbers_now n =
        ap (times n) (map-append number_of handed new_blocks ∙ ap (λ l. map number_of handed ++ l) new_numbers_are)
        ∙ times_append n (map number_of handed) (range_with_len (start ps which) q.count)

    named_now : (n : ℕ) → times n (named ++ new_named) ≡ times n named + times n (range_with_len (start ps r) g)
    named_now n = ap (λ l. times n (named ++ l)) new_named_is ∙ times_append n named (range_with_len (start ps r) g)

    accepted_now : (j : ℕ) → times j (acc ++ (which ∷ [])) ≡ times j acc + times j (which ∷ [])
    accepted_now j = times_append j acc (which ∷ [])

    below_now : (n : ℕ) → n < start ps (which + 1) → times n (map number_of (handed ++ new_blocks)) + times n (named ++ new_named) ≡ 1
    below_now n l =
        let row1 = row n (start ps r) g in
        let row2 = row n (start ps which) q.count in
        let before = cases_lt n (start ps r) in
        ⊎_elim (λ o. omega (arith, k.below n o, numbers_now n, named_now n, more, between))
        (λ o. omega (arith, k.above n o, numbers_now n, named_now n, more, between)) before

    above_now : (n : ℕ) → start ps (which + 1) ≤ n → times n (map number_of (handed ++ new_blocks)) + times n (named ++ new_named) ≡ 0
    above_now n l =
        let row1 = row n (start ps r) g in
        let row2 = row n (start ps which) q.count in
        omega (arith, k.above n (omega (arith, more, between)), numbers_now n, named_now n, more, between)

    missing_now : (j n : ℕ) → Holds ps j n → n < start ps (which + 1) → (times n (named ++ new_named) ≡ 1) ↔ (times j (acc ++ (which ∷ [])) ≡ 0)
    missing_now j n held l = ⊎_elim old (λ o. ⊎_elim (skipped o) heard_here (cases_lt n (start ps which))) (cases_lt n (start ps r))
      where
        named_is : times n (named ++ new_named) ≡ times n named + times n (range_with_len (start ps r) g)
        named_is = named_now n

        acc_is : times j (acc ++ (which ∷ [])) ≡ times j acc + times j (which ∷ [])
        acc_is = accepted_now j

        old : n < start ps r → (times n (named ++ new_named) ≡ 1) ↔ (times j (acc ++ (which ∷ [])) ≡ 0)
        old o =
            let none : times n (range_with_len (start ps r) g) ≡ 0 = times_out n (start ps r) g (inl o) in
            let rises : start ps r ≤ start ps which = start_rises ps r which onward in
            let other : times j (which ∷ []) ≡ 0 = one_no j which (λ e. omega (arith, held.from, ap (start ps) e)) in
            let iff = k.missing j n held o in
            (λ e. omega (arith, acc_is, iff.0 (omega (arith, named_is))), λ e. omega (arith, named_is, iff.1 (omega (arith, acc_is))))

        skipped : start ps r ≤ n → n < start ps which → (times n (named ++ new_named) ≡ 1) ↔ (times j (acc ++ (which ∷ [])) ≡ 0)
        skipped o b =
            let some : times n (range_with_len (start ps r) g) ≡ 1 = times_in n (start ps r) g o (omega (arith, between)) in
            let nothing : times n named ≡ 0 = omega (arith, k.above n o) in
            let after : r ≤ j = ⊎_elim (λ early. absurd (omega (arith, held.to, start_more ps j held.was_sent, start_rises ps (j + 1) r (omega arith)))) (λ late. late) (cases_lt j r) in
            let never : times j acc ≡ 0 = k.acc_below j after in
            let other : times j (which ∷ []) ≡ 0 = one_no j which (λ e. omega (arith, held.from, ap (start ps) e)) in
            (λ _. omega (arith, acc_is), λ _. omega (arith, named_is))

        heard_here : start ps which ≤ n → (times n (named ++ new_named) ≡ 1) ↔ (times j (acc ++ (which ∷ [])) ≡ 0)
        heard_here b =
            let none : times n (range_with_len (start ps r) g) ≡ 0 = times_out n (start ps r) g (inr (omega (arith, between))) in
            let nothing : times n named ≡ 0 = omega (arith, k.above n (omega (arith, between))) in
            let here : j ≡ which = held_once ps j which n held (record { was_sent = was_sent; from = b; to = omega (arith, more) }) in
            let some : times j (which ∷ []) ≡ 1 = one_yes j which here in
            (λ e. absurd (omega (arith, named_is)), λ e. absurd (omega (arith, acc_is)))

    right_now : AllByRecursion (AsInScore d s ps) new_blocks
    right_now = All-weaker (BlockRight d s ok (start ps which) q w) (AsInScore d s ps)
        (λ b br. record {
          of_score = br.of_score;
          units_are = br.units_are;
          packet = which;
          held = record { was_sent = was_sent; from = br.from; to = br.to };
          with_time = br.with_time;
          without_time = br.without_time;
        })
        new_blocks (blocks_back d s ok (start ps which) q w g a list' well)

    pub listens_more : Listens ps (which + 1) (handed ++ new_blocks) (named ++ new_named) (acc ++ (which ∷ [])) x'
    listens_more = record {
      reached_most = omega arith;
      next_is = h.next_is ∙ omega (arith, well.first_is, well.count_is, more);
      heard_is = h.heard_is ∙ omega (arith, k.heard_is, length-append handed new_blocks, length-map-range_with_len (block_heard d.stream q.bytes a list') 0 a.blocks);
      missed_is = h.missed_is ∙ omega (arith, k.missed_is, length-append named new_named, length-range_with_len (a.first - a.gap) a.gap);
      below = below_now;
      above = above_now;
      right = All-append (AsInScore d s ps) handed new_blocks k.right right_now;
      missing = missing_now;
      acc_below = λ j l. omega (arith, accepted_now j, k.acc_below j (omega arith), one_no j which (omega arith));
    }

    -- where nothing was left out, nothing is named missing
    pub none_named : which ≡ r → named ≡ [] → named ++ new_named ≡ []
    none_named e n =
        let zero_gap : a.gap ≡ 0 = omega (arith, well.gap_is, between, ap (start ps) e) in
        ap (λ l. l ++ new_named) n ∙ ap (λ m. range_with_len (a.first - m) m) zero_gap
