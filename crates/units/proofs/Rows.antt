-- A row of units read one after another.
use Rattle.std.proofs.Common.{◌≡◌, ℕ, zero, suc, ◌+◌, ◌-◌, ◌<◌, ◌≤◌, false, ltb, List, [], ◌∷◌, ◌++◌, length, get_or, take, drop, set, Ok, Err, Result, sym, refl, ap, ◌∙◌, arith, le-ltb}
use Rattle.std.proofs.lemmas.List.{take_rest, drop_more, set_at, append_assoc, take_at, drop_at, length-append, length_push}
use Rattle.std.proofs.lemmas.Bool.{cond-false}
use Rattle.std.specs.List.{flat_map}
use Rattle.faults.specs.Located.{located}
use Rattle.faults.specs.declared.located.Located.{Located}
use Rattle.faults.specs.declared.units.UnitFault.{UnitFault}
use Rattle.kinds.specs.Codes.{read_front}
use Rattle.units.specs.Rows.{before, row}

-- the answer where the units us were read before
abbrev pub after : {U : Type 0} → List U → Result (List U) (Located ℕ UnitFault) → Result (List U) (Located ℕ UnitFault)
after [] r = r
after (u ∷ us) r = before (Ok u) (after us r)

after_push : {U : Type 0} (us : List U) (u : U) (r : Result (List U) (Located ℕ UnitFault)) → after us (before (Ok u) r) ≡ after (us ++ u ∷ []) r
after_push [] u r = refl
after_push (v ∷ us) u r = ap (before (Ok v)) (after_push us u r)

after_err : {U : Type 0} (us : List U) (at : Located ℕ UnitFault) → after us (Err at) ≡ Err (record { position = at.position + length us; fault = at.fault })
after_err [] at = ap (λ k. Err (record { position = k; fault = at.fault })) (omega arith)
after_err (u ∷ us) at = ap (before (Ok u)) (after_err us at) ∙ ap (λ k. Err (record { position = k; fault = at.fault })) (omega arith)

after_end : {U : Type 0} (us : List U) → after us (Ok []) ≡ Ok us
after_end [] = refl
after_end (u ∷ us) = ap (before (Ok u)) (after_end us)

module _ {U : Type 0} (n : ℕ) (heard : List ℕ → Result U UnitFault) (count : ℕ) (bs : List ℕ) where
  -- the units us were read, i of them, and the rest is left
  abbrev pub Reached : ℕ → List ℕ → List U → Type 0
  Reached i rest us = (length us ≡ i) × (row n heard count bs ≡ after us (row n heard (count - i) rest))

  row_more : (i : ℕ) (rest : List ℕ) → i < count → row n heard (count - i) rest ≡ before (read_front n heard rest) (row n heard (count - (i + 1)) (drop n rest))
  row_more i rest h = let k : count - i ≡ suc (count - (i + 1)) = omega arith in ap (λ j. row n heard j rest) k

  pub reached_none : Reached 0 bs []
  reached_none = let k : count ≡ count - 0 = omega arith in (refl, ap (λ j. row n heard j bs) k)

  pub reached_more : (i k : ℕ) (rest : List ℕ) (us : List U) (u : U) → k ≡ n → Reached i rest us → i < count → Ok u ≡ read_front n heard rest → Reached (i + 1) (take (length rest - k) (drop k rest)) (us ++ u ∷ [])
  reached_more i k rest us u s r h e =
      let left = row n heard (count - (i + 1)) in (
        length_push us u ∙ ap (λ k. k + 1) r.0,
        r.1 ∙ ap (after us) (row_more i rest h ∙ ap (λ x. before x (left (drop n rest))) (sym e)) ∙ after_push us u (left (drop n rest))
            ∙ ap (λ l. after (us ++ u ∷ []) (left l)) (ap (λ j. drop j rest) (sym s) ∙ sym (take_rest rest k)),
      )

  pub reached_refused : (i : ℕ) (rest : List ℕ) (us : List U) (f : UnitFault) → Reached i rest us → i < count → Err f ≡ read_front n heard rest → row n heard count bs ≡ Err (record { position = i; fault = f })
  reached_refused i rest us f r h e =
      let left = row n heard (count - (i + 1)) (drop n rest) in
      r.1 ∙ ap (after us) (row_more i rest h ∙ ap (λ x. before x left) (sym e)) ∙ after_err us (record { position = 0; fault = f })
      ∙ ap (λ k. Err (record { position = k; fault = f })) (omega (arith, r.0))

  -- the same of an answer that has got its position
  pub reached_located : (i : ℕ) (rest : List ℕ) (us : List U) (r : Result U UnitFault) (at : Located ℕ UnitFault) → Reached i rest us → i < count → r ≡ read_front n heard rest → Err at ≡ located i r → row n heard count bs ≡ Err at
  reached_located i rest us (Ok u) at r h e l = cc
  reached_located i rest us (Err f) at r h e l = let same : record { position = i; fault = f } ≡ at = cc in reached_refused i rest us f r h e ∙ ap (λ k. Err k) same

  pub reached_all : (i : ℕ) (rest : List ℕ) (us : List U) → Reached i rest us → count ≤ i → row n heard count bs ≡ Ok us
  reached_all i rest us r h =
      let k : count - i ≡ 0 = omega arith in
      r.1 ∙ ap (λ j. after us (row n heard j rest)) k ∙ after_end us

pub read_located : {U : Type 0} (i : ℕ) (r : Result U UnitFault) (u : U) → Ok u ≡ located i r → Ok u ≡ r
read_located i (Ok v) u e = cc
read_located i (Err f) u e = cc

-- one element more is written over the front
pub over_more : {X : Type 0} (entry list us : List X) (i : ℕ) (u : X) → i < length entry → length us ≡ i → list ≡ us ++ drop i entry → set list i u ≡ (us ++ u ∷ []) ++ drop (i + 1) entry
over_more entry list us i u h k e =
    let next : drop i entry ≡ get_or entry i u ∷ drop (i + 1) entry = drop_more entry i u h in
    ap (λ x. set x i u) (e ∙ ap (λ x. us ++ x) next) ∙ set_at us (get_or entry i u) (drop (i + 1) entry) u i k ∙ sym (append_assoc us (u ∷ []) (drop (i + 1) entry))

-- what was written is read
pub row_joined : {U : Type 0} (n : ℕ) (heard : List ℕ → Result U UnitFault) (code : U → List ℕ) → ((u : U) → length (code u) ≡ n) → ((u : U) → heard (code u) ≡ Ok u) → (us : List U) (rest : List ℕ) → row n heard (length us) (flat_map code us ++ rest) ≡ Ok us
row_joined n heard code long back [] rest = refl
row_joined n heard code long back (u ∷ us) rest =
    let bs = flat_map code (u ∷ us) ++ rest in
    let a : bs ≡ code u ++ (flat_map code us ++ rest) = append_assoc (code u) (flat_map code us) rest in
    let there : ltb (length bs) n ≡ false = le-ltb _ _ (omega (arith, ap length a, length-append (code u) (flat_map code us ++ rest), long u)) in
    let t : take n bs ≡ code u = ap (take n) a ∙ take_at (code u) (flat_map code us ++ rest) n (long u) in
    let d : drop n bs ≡ flat_map code us ++ rest = ap (drop n) a ∙ drop_at (code u) (flat_map code us ++ rest) n (long u) in
    let first : read_front n heard bs ≡ Ok u = cond-false _ _ _ there ∙ ap heard t ∙ back u in
    (λ i. before (first i) (row n heard (length us) (d i))) ∙ ap (before (Ok u)) (row_joined n heard code long back us rest)

-- the refused one is among them
refused_first : {U : Type 0} (count : ℕ) (a : Result U UnitFault) (b : Result (List U) (Located ℕ UnitFault)) (at : Located ℕ UnitFault) → ((k : Located ℕ UnitFault) → b ≡ Err k → k.position < count) → before a b ≡ Err at → at.position < suc count
refused_first count (Ok u) (Ok us) at h e = let z : ◌≡◌ {A = ℕ} 0 1 = cc in absurd (omega arith)
refused_first count (Ok u) (Err k) at h e = let d : k.position + 1 ≡ at.position = cc in omega (arith, h k refl)
refused_first count (Err f) b at h e = let d : 0 ≡ at.position = cc in omega arith

pub row_inside : {U : Type 0} (n : ℕ) (heard : List ℕ → Result U UnitFault) (count : ℕ) (bs : List ℕ) (at : Located ℕ UnitFault) → row n heard count bs ≡ Err at → at.position < count
row_inside n heard zero bs at e = let z : ◌≡◌ {A = ℕ} 0 1 = cc in absurd (omega arith)
row_inside n heard (suc count) bs at e = refused_first count (read_front n heard bs) (row n heard count (drop n bs)) at (row_inside n heard count (drop n bs)) e
