-- What a listener hears of what a talker sent: the packet comes back as it was made.
use Rattle.std.proofs.Common.{◌≡◌, ℕ, ◌+◌, ◌-◌, ◌*◌, ◌/◌, ◌%◌, ◌<◌, ◌≤◌, true, false, cond, ◌&&◌, eqb, ltb, leb, List, [], ◌++◌, length, get_or, take, drop, Some, None, Ok, Option, sym, ap, ◌∙◌, subst, ⊎_elim, mul_assoc, mul_comm, mul-le-mul_left, mul-pos, arith}
use native.Mathlib.Nat.{mul-div_left}
use Rattle.std.specs.Prelude.{unwrap_or}
use Rattle.std.specs.Option.{option_map}
use Rattle.std.specs.List.{flat_map, AllByRecursion, range_with_len}
use Rattle.std.proofs.ByRecursion.{All-map}
use Rattle.std.proofs.lemmas.List.{length-append, length-take-le, length-drop, take_at, drop-append-le, take-append-le, drop-take, drop-drop, take-take, get_or-drop, append-nil}
use Rattle.std.proofs.lemmas.List.Sums.{prefix_len-le-length}
use Rattle.std.proofs.lemmas.Bool.{cond-true, cond-false, eq-eqb, ne_eqb, lt-ltb, le-leb, lt-leb, and_from, and_right, cases_eq, cases_lt}
use Rattle.clock.specs.Counts.{gap_to}
use Rattle.clock.specs.Ticks.{start as tick, stamp, ticks, time_of}
use Rattle.packets.specs.Headers.{header_bytes}
use Rattle.packets.specs.Sorting.{idle, dbc_of, syt_of}
use Rattle.plans.specs.Rates.{interval}
use Rattle.plans.specs.Stamps.{stamped_index}
use Rattle.plans.specs.Streams.{every, dbs, fdf, block_bytes}
use Rattle.plans.proofs.Intervals.{at_intervals}
use Rattle.talkers.specs.Sending.{Desk, Score, State as Talker, due, stamp_for}
use Rattle.units.specs.Rows.{row}
use Rattle.units.proofs.Laying.{length_joined}
use Rattle.units.proofs.Rows.{row_joined}
use Rattle.listeners.specs.declared.heard.Heard.{Heard}
use Rattle.listeners.specs.Hearing.{State as Listener, count, time}
use Rattle.streams.specs.Runs.{Packet, Block, block_heard, blocks_heard}
use Rattle.streams.specs.Laws.{time_due, DueATime}
use Rattle.streams.proofs.Accepted.{DeskLaws, taken, units_of, stamp_of, wire, SendAccepted, HearAccepted}
use Rattle.streams.proofs.Lists.{due_in, all_counting}

-- the stamped index is that of the number which is a multiple of the interval, by the number or by its count
abbrev pub IndexRight : ℕ → ℕ → ℕ → Type 0
IndexRight place k i = k < i
    → ((place + k) % i ≡ 0 → (k ≡ stamped_index i (place % 256)) × (k ≡ stamped_index i place)) × (k ≡ stamped_index i (place % 256) → (place + k) % i ≡ 0)

pub stamp_right : (sfc place k : ℕ) → IndexRight place k (interval sfc)
stamp_right sfc place k =
    at_intervals (IndexRight place k)
    (λ h. (λ e. (omega arith, omega arith), λ e. omega arith))
    (λ h. (λ e. (omega arith, omega arith), λ e. omega arith))
    (λ h. (λ e. (omega arith, omega arith), λ e. omega arith))
    sfc

-- the gap is what was left out
gap_right : (next g place : ℕ) → next + g ≡ place → g < 256 → gap_to next (place % 256) ≡ g
gap_right next g place e h = omega arith

-- a stamp tells its time again
rest_is : (p k x : ℕ) → p ≡ 49152 * k + x → x < 49152 → p % 49152 ≡ x
rest_is p k x e h = omega arith

ticks_right : (p syt : ℕ) → syt ≡ stamp p → ticks syt % 49152 ≡ p % 49152
ticks_right p syt e =
    let top : syt / 4096 ≡ p / 3072 % 16 = omega arith in
    let low : syt % 4096 ≡ p % 3072 = omega arith in
    let below : 3072 * (p / 3072 % 16) + p % 3072 < 49152 = omega arith in
    let mine : ticks syt ≡ 49152 * 0 + (3072 * (p / 3072 % 16) + p % 3072) = omega arith in
    let its : p ≡ 49152 * (p / 3072 / 16) + (3072 * (p / 3072 % 16) + p % 3072) = omega arith in
    rest_is (ticks syt) 0 (3072 * (p / 3072 % 16) + p % 3072) mine below ∙ sym (rest_is p (p / 3072 / 16) (3072 * (p / 3072 % 16) + p % 3072) its below)

window : (c p t : ℕ) → t ≡ p % 49152 → tick c ≤ p → p ≤ tick c + 49151 → tick c + (t + 49152 - tick c % 49152) % 49152 ≡ p
window c p t e a b = omega arith

time_right : (c p syt : ℕ) → syt ≡ stamp p → tick c ≤ p → p ≤ tick c + 49151 → time_of c syt ≡ p
time_right c p syt e a b = window c p (ticks syt % 49152) (ticks_right p syt e) a b

not_silent : (p : ℕ) → stamp p ≡ 65535 → ⊥
not_silent p f = omega arith

-- a block's units, out of the units of a packet
slice_back : {X : Type 0} (D P i n : ℕ) (xs rest : List X) → i < n → D * (P + n) ≤ length xs
    → take D (drop (D * i) (take (D * n) (drop (D * P) xs) ++ rest)) ≡ take D (drop (D * (P + i)) xs)
slice_back D P i n xs rest h fits =
    let more : D * (i + 1) ≤ D * n = mul-le-mul_left D (omega arith) in
    let long : length (take (D * n) (drop (D * P) xs)) ≡ D * n = length-take-le (D * n) (drop (D * P) xs) (rw length-drop (omega arith)) in
    let r : ℕ = D * n - D * i in
    let sum : D * n ≡ D * i + r = omega arith in
    let step1 : drop (D * i) (take (D * n) (drop (D * P) xs) ++ rest) ≡ drop (D * i) (take (D * n) (drop (D * P) xs)) ++ rest =
    drop-append-le (D * i) (take (D * n) (drop (D * P) xs)) rest (omega arith) in
    let step2 : drop (D * i) (take (D * n) (drop (D * P) xs)) ≡ take r (drop (D * i) (drop (D * P) xs)) =
    ap (λ m. drop (D * i) (take m (drop (D * P) xs))) sum ∙ drop-take (D * i) r (drop (D * P) xs) in
    let step3 : drop (D * i) (drop (D * P) xs) ≡ drop (D * (P + i)) xs = drop-drop (D * i) (D * P) xs ∙ ap (λ m. drop m xs) (omega arith) in
    let back : drop (D * i) (take (D * n) (drop (D * P) xs)) ≡ take r (drop (D * (P + i)) xs) = step2 ∙ ap (take r) step3 in
    let r_long : D ≤ r = omega arith in
    let left : length (take r (drop (D * (P + i)) xs)) ≡ r = length-take-le r (drop (D * (P + i)) xs) (rw length-drop (omega arith)) in
    ap (take D) (step1 ∙ ap (λ l. l ++ rest) back)
    ∙ take-append-le D (take r (drop (D * (P + i)) xs)) rest (omega arith)
    ∙ take-take D r (drop (D * (P + i)) xs) r_long

-- so many whole blocks are counted
same_count : (m n len : ℕ) → 1 ≤ m → len ≡ 8 + m * n → (len - 8) / m ≡ n
same_count m n len h e =
    let l : len - 8 ≡ n * m = omega (arith, mul_comm m n) in
    ap (λ k. k / m) l ∙ mul-div_left n h

module _ {U : Type 0} (d : Desk U) (s : Score U) (ok : DeskLaws d) where
  -- the packet was sent from this place of the score
  pub record SentWell (place : ℕ) (q : Packet) : Type 0 where
    pub units_fit : length s.units ≡ d.stream.dimension * length s.arrivals
    pub reached : place ≤ length s.arrivals
    pub count_is : q.count ≡ taken d s place q.cycle
    pub bytes_are : q.bytes ≡ wire d s place q.count q.cycle

  block_positive : 1 ≤ block_bytes d.stream
  block_positive =
      let four : 0 < 4 * d.stream.size = omega (arith, ok.size_least) in
      mul-pos four ok.dim_least

  -- the units of a packet's blocks are there
  wire_units : (place n : ℕ) → length s.units ≡ d.stream.dimension * length s.arrivals → place + n ≤ length s.arrivals
      → length (units_of d s place n) ≡ d.stream.dimension * n
  wire_units place n fit inside =
      let more : d.stream.dimension * (place + n) ≤ d.stream.dimension * length s.arrivals = mul-le-mul_left d.stream.dimension inside in
      length-take-le (d.stream.dimension * n) (drop (d.stream.dimension * place) s.units) (rw length-drop (omega arith))

  taken_inside : (place c n : ℕ) → place ≤ length s.arrivals → n ≡ taken d s place c → place + n ≤ length s.arrivals
  taken_inside place c n h e =
      let w = due (tick c) (drop place s.arrivals) in
      let most : taken d s place c ≤ w = ok.at_most_due w (every d.stream) in
      let long : w ≤ length (drop place s.arrivals) = prefix_len-le-length _ (drop place s.arrivals) in
      omega (arith, length-drop place s.arrivals)

  wire_length : (place n c : ℕ) → length s.units ≡ d.stream.dimension * length s.arrivals → place + n ≤ length s.arrivals
      → length (wire d s place n c) ≡ 8 + block_bytes d.stream * n
  wire_length place n c fit inside =
      let e : length (flat_map d.stream.code (units_of d s place n)) ≡ 4 * d.stream.size * (d.stream.dimension * n) =
      length_joined d.stream.code (4 * d.stream.size) ok.code_length (units_of d s place n) ∙ ap (λ m. 4 * d.stream.size * m) (wire_units place n fit inside) in
      let m : 4 * d.stream.size * (d.stream.dimension * n) ≡ block_bytes d.stream * n = sym (mul_assoc (4 * d.stream.size) d.stream.dimension n) in
      length-append (header_bytes d.sid (dbs d.stream) (place % 256) (fdf d.stream) (stamp_of d s place n c)) (flat_map d.stream.code (units_of d s place n)) ∙ ap (λ k. 8 + k) (e ∙ m)

  -- what an accepted send writes
  pub sent_packet : (t : Talker) (c : ℕ) (bytes : List ℕ) (n len : ℕ) (bytes' : List ℕ) (t' : Talker)
      → SendAccepted d s t c bytes n len bytes' t' → SentWell t.place (record { cycle = c; bytes = take len bytes'; count = n })
  sent_packet t c bytes n len bytes' t' a =
      let inside : t.place + n ≤ length s.arrivals = taken_inside t.place c n a.reached a.count_is in
      let long : length (wire d s t.place n c) ≡ len = wire_length t.place n c a.units_fit inside ∙ sym a.len_is in
      record {
        units_fit = a.units_fit;
        reached = a.reached;
        count_is = a.count_is;
        bytes_are = ap (take len) a.written ∙ take_at (wire d s t.place n c) (drop len bytes) len long;
      }

  -- what a hearing of that packet answers
  pub record HeardWell (place : ℕ) (q : Packet) (g : ℕ) (a : Heard) (list' : List U) : Type 0 where
    pub gap_is : a.gap ≡ g
    pub first_is : a.first ≡ place
    pub count_is : a.blocks ≡ q.count
    pub list_is : (rest : List U) × (list' ≡ units_of d s place q.count ++ rest)
    pub time_is : a.time ≡ time q.cycle q.bytes

  module _ (place : ℕ) (q : Packet) (w : SentWell place q) where
    inside : place + q.count ≤ length s.arrivals
    inside = taken_inside place q.cycle q.count w.reached w.count_is

    not_idle : idle q.bytes ≡ false
    not_idle =
        let f : get_or q.bytes 5 0 ≡ fdf d.stream = ap (λ b. get_or b 5 0) w.bytes_are in
        ne_eqb (get_or q.bytes 5 0) 0xff (λ e. omega (arith, ok.event_most, ok.sfc_most))

    counted : count d.stream q.bytes ≡ q.count
    counted =
        let long : length q.bytes ≡ 8 + block_bytes d.stream * q.count = ap length w.bytes_are ∙ wire_length place q.count q.cycle w.units_fit inside in
        cond-false _ _ _ not_idle ∙ same_count (block_bytes d.stream) q.count (length q.bytes) block_positive long

    pub heard_back : (l : Listener) (list : List U) (a : Heard) (list' : List U) (l' : Listener) (g : ℕ) → l.next + g ≡ place → g < 256
        → HearAccepted d.stream q.cycle q.bytes l list a list' l' → HeardWell place q g a list'
    heard_back l list a list' l' g e small h =
        let bytes = 4 * d.stream.size in
        let code = d.stream.code in
        let gap : a.gap ≡ g = h.gap_is ∙ ap (gap_to l.next) (ap dbc_of w.bytes_are) ∙ gap_right l.next g place e small in
        let blocks_are : a.blocks ≡ q.count = h.count_is ∙ counted in
        let sent_units : List U = units_of d s place q.count in
        let whole : row bytes d.stream.heard (length sent_units) (flat_map code sent_units ++ []) ≡ Ok sent_units =
        row_joined bytes d.stream.heard code ok.code_length ok.back sent_units [] in
        let many : d.stream.dimension * count d.stream q.bytes ≡ length sent_units = ap (λ n. d.stream.dimension * n) counted ∙ sym (wire_units place q.count w.units_fit inside) in
        let back : Ok h.read ≡ Ok sent_units = sym h.read_is
        ∙ (λ i. row bytes d.stream.heard (many i) (drop 8 (w.bytes_are i)))
        ∙ ap (row bytes d.stream.heard (length sent_units)) (sym (append-nil (flat_map code sent_units))) ∙ whole in
        let same : h.read ≡ sent_units = cc in
        let rest = drop (d.stream.dimension * count d.stream q.bytes) list in
        record {
          gap_is = gap;
          first_is = h.first_is ∙ omega arith;
          count_is = blocks_are;
          list_is = (rest, h.written ∙ ap (λ us. us ++ rest) same);
          time_is = h.time_is;
        }

    syt_back : syt_of q.bytes ≡ stamp_of d s place q.count q.cycle
    syt_back = ap syt_of w.bytes_are ∙ omega arith

    dbc_back : dbc_of q.bytes ≡ place % 256
    dbc_back = ap dbc_of w.bytes_are

    few : q.count ≤ every d.stream
    few = subst (λ n. n ≤ every d.stream) (sym w.count_is) (ok.at_most_interval _ (every d.stream))

    -- a block of the packet has arrived
    arrived : (i : ℕ) → i < q.count → get_or s.arrivals (place + i) 0 ≤ tick q.cycle
    arrived i h =
        let v = due (tick q.cycle) (drop place s.arrivals) in
        let most : taken d s place q.cycle ≤ v = ok.at_most_due v (every d.stream) in
        let r = due_in (tick q.cycle) (drop place s.arrivals) i (omega (arith, w.count_is)) in
        subst (λ n. n ≤ tick q.cycle) (get_or-drop place s.arrivals i 0) r.1

    -- the stamped block's time comes back
    module _ (k : ℕ) (h : k < q.count) (st : (place + k) % every d.stream ≡ 0) where
      here : k ≡ stamped_index (every d.stream) place
      here = ((stamp_right d.stream.sfc place k (omega (arith, few))).0 st).1

      P : ℕ
      P = time_due d s (place + k)

      -- the stamp by the stamped block
      stamp_here : stamp_for (every d.stream) d.delay s.arrivals place q.count q.cycle ≡ cond (ltb k q.count && leb (tick q.cycle) (time_due d s (place + k))) (Some (stamp (time_due d s (place + k)))) None
      stamp_here = ap (λ i. cond (ltb i q.count && leb (tick q.cycle) (time_due d s (place + i))) (Some (stamp (time_due d s (place + i)))) None) (sym here)

      pub stamp_back : (tick q.cycle ≤ time_due d s (place + k) → time q.cycle q.bytes ≡ Some (time_due d s (place + k)))
          × (time_due d s (place + k) < tick q.cycle → time q.cycle q.bytes ≡ None)
      stamp_back =
          let c = q.cycle in
          let p : ℕ = time_due d s (place + k) in
          let syt = syt_of q.bytes in
          let inside_now : ltb k q.count ≡ true = lt-ltb k q.count h in (
            λ early.
                let value : syt ≡ stamp p = syt_back ∙ ap (λ o. unwrap_or o 0xffff) (stamp_here ∙ cond-true _ _ _ (and_from _ _ inside_now (le-leb (tick c) p early))) in
                let told : eqb syt 0xffff ≡ false = ne_eqb syt 0xffff (λ e. not_silent p (sym value ∙ e)) in
                cond-false _ _ _ not_idle ∙ ap (option_map (time_of c)) (cond-false _ _ _ told) ∙ ap Some (time_right c p syt value early (omega (arith, arrived k h, ok.delay_most))),
            λ late.
                let none : stamp_for (every d.stream) d.delay s.arrivals place q.count c ≡ None = stamp_here ∙ cond-false _ _ _ (and_right (ltb k q.count) _ (lt-leb (tick c) p late)) in
                let value : syt ≡ 0xffff = syt_back ∙ ap (λ o. unwrap_or o 0xffff) none in
                cond-false _ _ _ not_idle ∙ ap (option_map (time_of c)) (cond-true _ _ _ (eq-eqb syt 0xffff value)),
          )

    pub record BlockRight (b : Block U) : Type 0 where
      pub from : place ≤ b.number
      pub to : b.number < place + q.count
      pub of_score : b.number < length s.arrivals
      pub units_are : b.units ≡ take d.stream.dimension (drop (d.stream.dimension * b.number) s.units)
      pub with_time : DueATime d s q.cycle b.number → b.time ≡ Some (time_due d s b.number)
      pub without_time : ¬ (DueATime d s q.cycle b.number) → b.time ≡ None

    time_back : (i : ℕ) → i < q.count → (t : Option ℕ) → t ≡ time q.cycle q.bytes
        → (DueATime d s q.cycle (place + i) → cond (eqb i (stamped_index (every d.stream) (dbc_of q.bytes))) t None ≡ Some (time_due d s (place + i)))
        × (¬ (DueATime d s q.cycle (place + i)) → cond (eqb i (stamped_index (every d.stream) (dbc_of q.bytes))) t None ≡ None)
    time_back i h t timed =
        let right = stamp_right d.stream.sfc place i (omega (arith, few)) in
        let idx = stamped_index (every d.stream) (dbc_of q.bytes) in
        let idx_is : idx ≡ stamped_index (every d.stream) (place % 256) = ap (stamped_index (every d.stream)) dbc_back in (
          λ yes-due. cond-true (eqb i idx) t None (eq-eqb i idx ((right.0 yes-due.stamped).0 ∙ sym idx_is)) ∙ timed ∙ (stamp_back i h yes-due.stamped).0 yes-due.in_time,
          λ not-due. ⊎_elim
              (λ is. let st : (place + i) % every d.stream ≡ 0 = right.1 (is ∙ idx_is) in
              cond-true (eqb i idx) t None (eq-eqb i idx is)
              ∙ timed ∙ (stamp_back i h st).1 (⊎_elim (λ l. l) (λ g. absurd (not-due (record { stamped = st; in_time = g }))) (cases_lt (time_due d s (place + i)) (tick q.cycle))))
              (λ is-not. cond-false (eqb i idx) t None (ne_eqb i idx is-not))
              (cases_eq i idx),
        )

    pub block_back : (g : ℕ) (a : Heard) (list' : List U) → HeardWell place q g a list' → (i : ℕ) → i < q.count
        → BlockRight (block_heard d.stream q.bytes a list' i)
    block_back g a list' h i l =
        let number : a.first + i ≡ place + i = ap (λ n. n + i) h.first_is in
        let more : d.stream.dimension * (place + q.count) ≤ length s.units =
        subst (λ n. d.stream.dimension * (place + q.count) ≤ n) (sym w.units_fit) (mul-le-mul_left d.stream.dimension inside) in
        let times = time_back i l a.time h.time_is in
        let time_told : Option ℕ = cond (eqb i (stamped_index (every d.stream) (dbc_of q.bytes))) a.time None in
        record {
          from = omega arith;
          to = omega arith;
          of_score = omega (arith, inside);
          units_are = ap (λ us. take d.stream.dimension (drop (d.stream.dimension * i) us)) h.list_is.1
              ∙ slice_back d.stream.dimension place i q.count s.units h.list_is.0 l more
              ∙ ap (λ n. take d.stream.dimension (drop (d.stream.dimension * n) s.units)) (sym number);
          with_time = subst (λ n. DueATime d s q.cycle n → time_told ≡ Some (time_due d s n)) (sym number) times.0;
          without_time = subst (λ n. ¬ (DueATime d s q.cycle n) → time_told ≡ None) (sym number) times.1;
        }

    pub blocks_back : (g : ℕ) (a : Heard) (list' : List U) → HeardWell place q g a list' → AllByRecursion BlockRight (blocks_heard d.stream q.bytes a list')
    blocks_back g a list' h =
        All-map BlockRight (block_heard d.stream q.bytes a list') (range_with_len 0 a.blocks)
        (all_counting (λ i. BlockRight (block_heard d.stream q.bytes a list' i)) 0 a.blocks (λ i _ l. block_back g a list' h i (omega (arith, h.count_is))))
