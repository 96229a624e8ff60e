-- Due blocks, and how often a number stands in a list.
use Rattle.std.proofs.Common.{◌≡◌, ℕ, zero, suc, ◌+◌, ◌<◌, ◌≤◌, true, cond, eqb, leb, ◌≢◌, ◌⊎◌, List, [], ◌∷◌, ◌++◌, length, get_or, sym, refl, ◌∙◌, inl, inr, ⊎_elim, arith}
use Rattle.std.specs.List.{AllByRecursion, range_with_len}
use Rattle.std.proofs.lemmas.List.Sums.{sum_by-cons, sum_by-append}
use Rattle.std.proofs.lemmas.Bool.{cases_Bool, cond-true, cond-false, leb-true, eq-eqb, ne_eqb, le-leb, cases_eq}
use Rattle.talkers.specs.Sending.{due}
use Rattle.streams.specs.Laws.{times}

-- the due blocks have arrived
pub due_in : (t : ℕ) (xs : List ℕ) (k : ℕ) → k < due t xs → (k < length xs) × (get_or xs k 0 ≤ t)
due_in t [] k h = absurd (omega arith)
due_in t (a ∷ xs) k h = ⊎_elim
    (λ yes-here. let e : due t (a ∷ xs) ≡ 1 + due t xs = cond-true (leb a t) (1 + due t xs) 0 yes-here in inside k (omega arith) yes-here (λ j. due_in t xs j))
    (λ not-here. let e : due t (a ∷ xs) ≡ 0 = cond-false (leb a t) (1 + due t xs) 0 not-here in absurd (omega arith))
    (cases_Bool (leb a t))
  where
    inside : (k : ℕ) → k < 1 + due t xs → leb a t ≡ true → ((j : ℕ) → j < due t xs → (j < length xs) × (get_or xs j 0 ≤ t))
        → (k < length (a ∷ xs)) × (get_or (a ∷ xs) k 0 ≤ t)
    inside zero h y before = (omega arith, leb-true a t y)
    inside (suc k) h y before = let r = before k (omega arith) in (omega (arith, r.0), r.1)

-- blocks that have arrived, one after the other, are due
pub due_least : (t : ℕ) (xs : List ℕ) (m : ℕ) → m ≤ length xs → ((k : ℕ) → k < m → get_or xs k 0 ≤ t) → m ≤ due t xs
due_least t [] m h all = omega arith
due_least t (a ∷ xs) zero h all = omega arith
due_least t (a ∷ xs) (suc m) h all =
    let e : due t (a ∷ xs) ≡ 1 + due t xs = cond-true (leb a t) (1 + due t xs) 0 (le-leb a t (all zero (omega arith))) in
    omega (arith, due_least t xs m (omega arith) (λ k l. all (suc k) (omega arith)))

abbrev hit : ℕ → ℕ → ℕ
hit n x = cond (eqb n x) 1 0

pub times_append : (n : ℕ) (xs ys : List ℕ) → times n (xs ++ ys) ≡ times n xs + times n ys
times_append n xs ys = sum_by-append (λ x. cond (eqb n x) 1 0) xs ys

-- a number stands in a row of numbers once or never
pub times_out : (n a k : ℕ) → (n < a) ⊎ (a + k ≤ n) → times n (range_with_len a k) ≡ 0
times_out n a zero h = refl
times_out n a (suc k) h =
    let apart : a ≡ n → ⊥ = λ e. omega arith in
    let here : hit n a ≡ 0 = cond-false (eqb n a) 1 0 (ne_eqb n a (λ e. apart (sym e))) in
    let rest : times n (range_with_len (a + 1) k) ≡ 0 = times_out n (a + 1) k (⊎_elim (λ l. inl (omega arith)) (λ g. inr (omega arith)) h) in
    sum_by-cons (hit n) a (range_with_len (a + 1) k) ∙ omega arith

pub times_in : (n a k : ℕ) → a ≤ n → n < a + k → times n (range_with_len a k) ≡ 1
times_in n a zero l h = absurd (omega arith)
times_in n a (suc k) l h = ⊎_elim
    (λ e. let here : hit n a ≡ 1 = cond-true (eqb n a) 1 0 (eq-eqb n a e) in
    let rest : times n (range_with_len (a + 1) k) ≡ 0 = times_out n (a + 1) k (inl (omega arith)) in
    sum_by-cons (hit n) a (range_with_len (a + 1) k) ∙ omega arith)
    (λ ne. let here : hit n a ≡ 0 = cond-false (eqb n a) 1 0 (ne_eqb n a ne) in
    let apart : n ≢ a = ne in
    let rest : times n (range_with_len (a + 1) k) ≡ 1 = times_in n (a + 1) k (omega arith) (omega arith) in
    sum_by-cons (hit n) a (range_with_len (a + 1) k) ∙ omega arith)
    (cases_eq n a)

pub all_counting : (P : ℕ → Type 0) (a k : ℕ) → ((i : ℕ) → a ≤ i → i < a + k → P i) → AllByRecursion P (range_with_len a k)
all_counting P a zero h = tt
all_counting P a (suc k) h = (h a (omega arith) (omega arith), all_counting P (a + 1) k (λ i l m. h i (omega arith) (omega arith)))
