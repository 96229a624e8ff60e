-- Every admitted list of calls keeps the law.
use Rattle.std.proofs.Common.{◌≡◌, ℕ, zero, suc, ◌+◌, ◌-◌, ◌*◌, ◌%◌, ◌<◌, ◌≤◌, cond, eqb, ltb, List, [], ◌∷◌, ◌++◌, take, drop, Some, None, Ok, count_by, sym, refl, ap, ◌∙◌, subst, ap₂, subst₂, ⊎_elim, arith}
use Rattle.std.specs.List.{AllByRecursion, range_with_len}
use Rattle.std.proofs.ByRecursion.{all-has}
use Rattle.std.proofs.lemmas.List.Sums.{count_by-le-length, sum_by-cons}
use Rattle.std.proofs.lemmas.List.FromFn.{length-range_with_len, map-range_with_len_more}
use Rattle.std.proofs.lemmas.List.{map-id}
use Rattle.std.proofs.lemmas.Bool.{cases_lt, cases_eq, cond-false, ne_eqb, le-ltb}
use Rattle.clock.specs.Ticks.{start as tick}
use Rattle.plans.specs.Streams.{every}
use Rattle.talkers.specs.Sending.{Desk, Score, State as Talker, Sends}
use Rattle.listeners.specs.declared.heard.Heard.{Heard}
use Rattle.listeners.specs.Hearing.{State as Listener}
use Rattle.streams.specs.Runs.{Who, first, second, Call, sends, send_refused, hears, hear_refused, Calls, none_yet, ◌then◌, Three, fresh, Packet, packet_at, blocks, start, Block, blocks_heard, packets, accepted, reached, named_missing, handed_out, Step, Admits, Admitted, HeardInOrder, LeftOut, Run, made, goes_on}
use Rattle.streams.specs.Laws.{times, lacking, numbers, Holds, time_due, DueATime, AsInScore, HandedOutOnce, left_unsent, LeftBlocksCome, StreamLaw, Always, LawFromTheMaking}
use Rattle.plans.proofs.Intervals.{interval_least}
use Rattle.streams.proofs.Accepted.{DeskLaws, SendAccepted, HearAccepted, sent_accepted, heard_accepted, send_unchanged, hear_unchanged}
use Rattle.streams.proofs.Packets.{Talks, talks_on, held_once, left_come}
use Rattle.streams.proofs.Invariant.{Listens, listens_on, listens_more, none_named}

-- those that are not among the first e are few
lacking_few : (have : List ℕ) (e m : ℕ) → ((n : ℕ) → n < e → times n have ≡ 1) → (a k : ℕ) → a + k ≤ e + m → lacking have (range_with_len a k) ≤ m
lacking_few have e m all a zero h = omega arith
lacking_few have e m all a (suc k) h = ⊎_elim
    (λ l. let here : ◌≡◌ {A = ℕ} (cond (eqb (times a have) 0) 1 0) 0 = cond-false (eqb (times a have) 0) 1 0 (ne_eqb (times a have) 0 (λ z. omega (arith, all a l))) in
    omega (arith, sum_by-cons (λ n. cond (eqb (times n have) 0) 1 0) a (range_with_len (a + 1) k), lacking_few have e m all (a + 1) k (omega arith)))
    (λ g. omega (arith, count_by-le-length (λ n. eqb (times n have) 0) (range_with_len a (suc k)), length-range_with_len a (suc k)))
    (cases_lt a e)

-- how many of the first r numbers are above j
above_count : (j a k : ℕ) → count_by (λ n. ltb j n) (range_with_len a k) ≤ a + k - (j + 1)
above_count j a zero = omega arith
above_count j a (suc k) = ⊎_elim
    (λ l. omega (arith, count_by-le-length (λ n. ltb j n) (range_with_len a (suc k)), length-range_with_len a (suc k)))
    (λ g. let here : ◌≡◌ {A = ℕ} (cond (ltb j a) 1 0) 0 = cond-false (ltb j a) 1 0 (le-ltb j a g) in
    omega (arith, sum_by-cons (λ n. cond (ltb j n) 1 0) a (range_with_len (a + 1) k), above_count j (a + 1) k))
    (cases_lt j a)

counting_more : (r : ℕ) → range_with_len 0 (r + 1) ≡ range_with_len 0 r ++ (r ∷ [])
counting_more r = sym (map-id (range_with_len 0 (r + 1))) ∙ map-range_with_len_more (λ n. n) 0 r r (omega arith) ∙ ap (λ l. l ++ (r ∷ [])) (map-id (range_with_len 0 r))

module _ {U : Type 0} (d : Desk U) (s : Score U) (ok : DeskLaws d) where
  abbrev Of : Who → Calls U → Listener → Type 0
  Of l cs x = Listens d s ok (packets cs) (reached l cs) (handed_out d.stream l cs) (named_missing l cs) (accepted l cs) x

  record HoldsAt (cs : Calls U) (w : Three) : Type 0 where
    talks : Talks d s ok (packets cs) w.talker
    first_listens : Of first cs w.listener1
    second_listens : Of second cs w.listener2
    first_names_none : named_missing first cs ≡ []
    first_accepts_all : accepted first cs ≡ range_with_len 0 (reached first cs)

  at_the_start : HoldsAt none_yet fresh
  at_the_start = record {
    talks = record { well = λ j h. absurd (omega arith); rising = λ i j l h. absurd (omega arith); place_is = refl; last_least = λ j c h l. absurd (omega arith) };
    first_listens = nothing;
    second_listens = nothing;
    first_names_none = refl;
    first_accepts_all = refl;
  }
    where
      nothing : Listens d s ok [] 0 [] [] [] fresh.listener1
      nothing = record {
        reached_most = omega arith;
        next_is = refl;
        heard_is = refl;
        missed_is = refl;
        below = λ n l. absurd (omega arith);
        above = λ n l. refl;
        right = tt;
        missing = λ j n h l. absurd (omega arith);
        acc_below = λ j l. refl;
      }

  -- fewer than 256 blocks are left out, by either
  left_out_small : (who : Who) (ps : List Packet) (r which : ℕ) → LeftOut who ps r which → blocks (take (which - r) (drop r ps)) < 256
  left_out_small first ps r which e =
      let z : which - r ≡ 0 = omega arith in
      subst (λ n. blocks (take n (drop r ps)) < 256) (sym z) (omega arith)
  left_out_small second ps r which l = l

  heard_more : (cs : Calls U) (t : Talker) (x x' : Listener) (who : Who) (which cycle : ℕ) (packet : List ℕ) (list : List U) (a : Heard) (list' : List U)
      → Talks d s ok (packets cs) t → Of who cs x → HeardInOrder who (packets cs) (reached who cs) which cycle packet
      → HearAccepted d.stream cycle packet x list a list' x'
      → Listens d s ok (packets cs) (which + 1) (handed_out d.stream who cs ++ blocks_heard d.stream packet a list')
      (named_missing who cs ++ range_with_len (a.first - a.gap) a.gap) (accepted who cs ++ (which ∷ [])) x'
  heard_more cs t x x' who which cycle packet list a list' talks listens o h =
      let ps = packets cs in
      let r = reached who cs in
      let h' : HearAccepted d.stream (packet_at ps which).cycle (packet_at ps which).bytes x list a list' x' =
      subst₂ (λ c b. HearAccepted d.stream c b x list a list' x') o.its_cycle o.its_bytes h in
      subst (λ b. Listens d s ok ps (which + 1) (handed_out d.stream who cs ++ blocks_heard d.stream b a list')
      (named_missing who cs ++ range_with_len (a.first - a.gap) a.gap) (accepted who cs ++ (which ∷ [])) x') (sym o.its_bytes)
      (listens_more d s ok ps r (handed_out d.stream who cs) (named_missing who cs) (accepted who cs) x listens which (talks.well which o.was_sent) o.was_sent
      o.onward (left_out_small who ps r which o.left_out) list a list' x' h')

  first_still_none : (cs : Calls U) (t : Talker) (x x' : Listener) (which cycle : ℕ) (packet : List ℕ) (list : List U) (a : Heard) (list' : List U)
      → Talks d s ok (packets cs) t → Of first cs x → HeardInOrder first (packets cs) (reached first cs) which cycle packet
      → HearAccepted d.stream cycle packet x list a list' x' → named_missing first cs ≡ []
      → named_missing first cs ++ range_with_len (a.first - a.gap) a.gap ≡ []
  first_still_none cs t x x' which cycle packet list a list' talks listens o h none =
      let ps = packets cs in
      let r = reached first cs in
      let h' : HearAccepted d.stream (packet_at ps which).cycle (packet_at ps which).bytes x list a list' x' =
      subst₂ (λ c b. HearAccepted d.stream c b x list a list' x') o.its_cycle o.its_bytes h in
      none_named d s ok ps r (handed_out d.stream first cs) (named_missing first cs) (accepted first cs) x listens which (talks.well which o.was_sent) o.was_sent
      o.onward (left_out_small first ps r which o.left_out) list a list' x' h' o.left_out none

  -- one call keeps it
  keeps : (cs : Calls U) (v : Three) (c : Call U) (w : Three) → HoldsAt cs v → Step d v c w → Admits s cs c → HoldsAt (cs then c) w
  keeps cs v (sends score cycle bytes count len bytes') w k (sent-so, one, two) e =
      let accepted_send : SendAccepted d s v.talker cycle bytes count len bytes' w.talker =
      sent_accepted d s v.talker cycle bytes count len bytes' w.talker (subst (λ sc. Sends d sc v.talker cycle bytes (Ok (record { blocks = count; length = len })) bytes' w.talker) e sent-so) in
      let q : Packet = record { cycle = cycle; bytes = take len bytes'; count = count } in
      let ps = packets cs in
      record {
        talks = talks_on d s ok ps v.talker cycle bytes count len bytes' w.talker k.talks accepted_send;
        first_listens = subst (Of first (cs then sends score cycle bytes count len bytes')) (sym one)
            (listens_on d s ok ps q (reached first cs) (handed_out d.stream first cs) (named_missing first cs) (accepted first cs) v.listener1 k.first_listens);
        second_listens = subst (Of second (cs then sends score cycle bytes count len bytes')) (sym two)
            (listens_on d s ok ps q (reached second cs) (handed_out d.stream second cs) (named_missing second cs) (accepted second cs) v.listener2 k.second_listens);
        first_names_none = k.first_names_none;
        first_accepts_all = k.first_accepts_all;
      }
  keeps cs v (send_refused score cycle bytes fault bytes') w k (sent-so, one, two) e = record {
    talks = subst (Talks d s ok (packets cs)) (sym (send_unchanged d score v.talker cycle bytes fault bytes' w.talker sent-so)) k.talks;
    first_listens = subst (Of first cs) (sym one) k.first_listens;
    second_listens = subst (Of second cs) (sym two) k.second_listens;
    first_names_none = k.first_names_none;
    first_accepts_all = k.first_accepts_all;
  }
  keeps cs v (hears first which cycle packet list a list') w k (h, same, still) o = record {
    talks = subst (Talks d s ok (packets cs)) (sym still) k.talks;
    first_listens = heard_more cs v.talker v.listener1 w.listener1 first which cycle packet list a list' k.talks k.first_listens o (heard_accepted d.stream cycle packet v.listener1 list a list' w.listener1 h);
    second_listens = subst (Of second cs) (sym same) k.second_listens;
    first_names_none = first_still_none cs v.talker v.listener1 w.listener1 which cycle packet list a list' k.talks k.first_listens o (heard_accepted d.stream cycle packet v.listener1 list a list' w.listener1 h) k.first_names_none;
    first_accepts_all = ap₂ (λ l n. l ++ (n ∷ [])) k.first_accepts_all o.left_out ∙ sym (counting_more (reached first cs)) ∙ ap (λ n. range_with_len 0 (n + 1)) (sym o.left_out);
  }
  keeps cs v (hears second which cycle packet list a list') w k (h, same, still) o = record {
    talks = subst (Talks d s ok (packets cs)) (sym still) k.talks;
    first_listens = subst (Of first cs) (sym same) k.first_listens;
    second_listens = heard_more cs v.talker v.listener2 w.listener2 second which cycle packet list a list' k.talks k.second_listens o (heard_accepted d.stream cycle packet v.listener2 list a list' w.listener2 h);
    first_names_none = k.first_names_none;
    first_accepts_all = k.first_accepts_all;
  }
  keeps cs v (hear_refused first cycle packet list fault list') w k (h, same, still) e = record {
    talks = subst (Talks d s ok (packets cs)) (sym still) k.talks;
    first_listens = subst (Of first cs) (sym (hear_unchanged d.stream cycle packet v.listener1 list fault list' w.listener1 h)) k.first_listens;
    second_listens = subst (Of second cs) (sym same) k.second_listens;
    first_names_none = k.first_names_none;
    first_accepts_all = k.first_accepts_all;
  }
  keeps cs v (hear_refused second cycle packet list fault list') w k (h, same, still) e = record {
    talks = subst (Talks d s ok (packets cs)) (sym still) k.talks;
    first_listens = subst (Of first cs) (sym same) k.first_listens;
    second_listens = subst (Of second cs) (sym (hear_unchanged d.stream cycle packet v.listener2 list fault list' w.listener2 h)) k.second_listens;
    first_names_none = k.first_names_none;
    first_accepts_all = k.first_accepts_all;
  }

  always_holds : {cs : Calls U} {w : Three} → Run d cs w → Admitted s cs → HoldsAt cs w
  always_holds made e = at_the_start
  always_holds (goes_on {cs = cs} {v = v} {c = c} {w = w} r step) (before, here) = keeps cs v c w (always_holds r before) step here

  -- two blocks of one number are one
  same_block : (ps : List Packet) (a b : Block U) → AsInScore d s ps a → AsInScore d s ps b → a.number ≡ b.number → a ≡ b
  same_block ps a b x y e = λ i. record { number = e i; units = units_same i; time = time_same i }
    where
      units_same : a.units ≡ b.units
      units_same = x.units_are ∙ ap (λ n. take d.stream.dimension (drop (d.stream.dimension * n) s.units)) e ∙ sym y.units_are

      one_packet : y.packet ≡ x.packet
      one_packet = held_once ps y.packet x.packet b.number y.held (subst (Holds ps x.packet) e x.held)

      cycle_of : ℕ
      cycle_of = (packet_at ps x.packet).cycle

      y_with : DueATime d s cycle_of b.number → b.time ≡ Some (time_due d s b.number)
      y_with = subst (λ j. DueATime d s (packet_at ps j).cycle b.number → b.time ≡ Some (time_due d s b.number)) one_packet y.with_time

      y_without : ¬ (DueATime d s cycle_of b.number) → b.time ≡ None
      y_without = subst (λ j. ¬ (DueATime d s (packet_at ps j).cycle b.number) → b.time ≡ None) one_packet y.without_time

      x_with : DueATime d s cycle_of b.number → a.time ≡ Some (time_due d s b.number)
      x_with = subst (λ n. DueATime d s cycle_of n → a.time ≡ Some (time_due d s n)) e x.with_time

      x_without : ¬ (DueATime d s cycle_of b.number) → a.time ≡ None
      x_without = subst (λ n. ¬ (DueATime d s cycle_of n) → a.time ≡ None) e x.without_time

      time_same : a.time ≡ b.time
      time_same = ⊎_elim
          (λ st. ⊎_elim
          (λ late. let no_time : ¬ (DueATime d s cycle_of b.number) = λ t. omega (arith, t.in_time) in x_without no_time ∙ sym (y_without no_time))
          (λ early. let t : DueATime d s cycle_of b.number = record { stamped = st; in_time = early } in x_with t ∙ sym (y_with t))
          (cases_lt (time_due d s b.number) (tick cycle_of)))
          (λ not-st. let no_time : ¬ (DueATime d s cycle_of b.number) = λ t. not-st t.stamped in x_without no_time ∙ sym (y_without no_time))
          (cases_eq (b.number % every d.stream) 0)

  handed_once : (cs : Calls U) (x : Listener) → Of first cs x → named_missing first cs ≡ [] → HandedOutOnce d s first cs
  handed_once cs x k none =
      let zero_times : (n : ℕ) → times n (named_missing first cs) ≡ 0 = λ n. ap (times n) none in
      record {
        below = λ n l. omega (arith, k.below n l, zero_times n);
        above = λ n l. omega (arith, k.above n l, zero_times n);
        none_missing = none;
      }

  comes : (cs : Calls U) (w : Three) → HoldsAt cs w → LeftBlocksCome d s cs
  comes cs w k j h enough =
      let ps = packets cs in
      let r = reached first cs in
      let m : ℕ = left_unsent s ps j in
      let many : m ≤ count_by (λ n. ltb j n) (range_with_len 0 r) = subst (λ l. m ≤ count_by (λ n. ltb j n) l) k.first_accepts_all enough in
      let got : (n : ℕ) → n < start ps r → times n (numbers d.stream first cs) ≡ 1 =
      (handed_once cs w.listener1 k.first_listens k.first_names_none).below in
      let positive : 1 ≤ every d.stream = omega (arith, interval_least d.stream.sfc) in
      let a : ℕ = start ps j + (packet_at ps j).count in
      ⊎_elim
      (λ some.
      let far : j + 1 + m ≤ r = omega (arith, above_count j 0 r) in
      let near : a + m < start ps r + every d.stream = left_come d s ok ps w.talker k.talks j h r k.first_listens.reached_most far in
      let few : lacking (numbers d.stream first cs) (range_with_len a m) ≤ every d.stream - 1 =
      lacking_few (numbers d.stream first cs) (start ps r) (every d.stream - 1) got a m (omega arith) in
      omega arith)
      (λ zero_left. omega (arith, count_by-le-length (λ n. eqb (times n (numbers d.stream first cs)) 0) (range_with_len a m), length-range_with_len a m))
      (cases_lt 0 m)

  law_at : (cs : Calls U) (w : Three) → HoldsAt cs w → StreamLaw d s cs w
  law_at cs w k = record {
    as_in_score = λ l. each l;
    alike_in_both = λ a b x y e. same_block (packets cs) a b (all-has (AsInScore d s (packets cs)) (handed_out d.stream first cs) a k.first_listens.right x)
        (all-has (AsInScore d s (packets cs)) (handed_out d.stream second cs) b k.second_listens.right y) e;
    second_accounted = record { below = k.second_listens.below; above = k.second_listens.above };
    second_missing = k.second_listens.missing;
    second_counted = record { heard_is = k.second_listens.heard_is; missed_is = k.second_listens.missed_is };
    first_handed_out = handed_once cs w.listener1 k.first_listens k.first_names_none;
    place_is = k.talks.place_is;
    left_blocks_come = comes cs w k;
  }
    where
      each : (l : Who) → AllByRecursion (AsInScore d s (packets cs)) (handed_out d.stream l cs)
      each first = k.first_listens.right
      each second = k.second_listens.right

  pub throughout : {cs : Calls U} {w : Three} (r : Run d cs w) → Admitted s cs → Always d s r
  throughout {cs} {w} made e = law_at cs w (always_holds made e)
  throughout {cs} {w} (goes_on r step) (before, here) = (law_at cs w (always_holds (goes_on r step) (before, here)), throughout r before)

pub law_from_the_making : {U : Type 0} (d : Desk U) → DeskLaws d → LawFromTheMaking d
law_from_the_making d ok s cs w r admitted = throughout d s ok r admitted
