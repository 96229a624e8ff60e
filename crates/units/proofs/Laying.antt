-- Codes of one length laid one after another.
use Rattle.std.proofs.Common.{◌≡◌, ℕ, suc, ◌+◌, ◌-◌, ◌*◌, ◌/◌, ◌<◌, ◌≤◌, false, ltb, List, [], ◌∷◌, ◌++◌, length, get_or, take, drop, sym, ap, ◌∙◌, mul_comm, mul-zero, le-div_iff_mul-le, mul-suc, add-one, arith, le-ltb}
use borrow.Rule.Slice.PartMut.{put_mid}
use Rattle.std.specs.List.{flat_map}
use Rattle.std.proofs.lemmas.Nat.{mul-le}
use Rattle.std.proofs.lemmas.List.{length-append, length-drop, length-take-le, take_at, drop_at, drop-drop, drop_all, take_more, take_rest, flat_map_more, append_assoc, append-nil}
use Rattle.std.proofs.lemmas.Bool.{cond-false}
use Rattle.kinds.specs.Codes.{laid}

-- whether so many of s bytes fit, as a division tells
pub fits : (len s count : ℕ) → 1 ≤ s → count ≤ len / s → s * count ≤ len
fits len s count h k = let a = (le-div_iff_mul-le {k = s} {x = count} {y = len} h).0 k in let b = mul_comm s count in omega arith

-- where all fit, the one at index i does
pub fits_one : (len s count i : ℕ) → s * count ≤ len → i < count → s * i + s ≤ len
fits_one len s count i h k = let a = mul-suc s i in let b = mul-le s (suc i) s count (omega arith) k in omega arith

pub next_place : (s i : ℕ) → s * (i + 1) ≡ s * i + s
next_place s i = rw add-one (mul-suc s i)

-- n bytes stand at `out[at..]`
there : (out : List ℕ) (at n : ℕ) → at + n ≤ length out → ltb (length (take (length out - at) (drop at out))) n ≡ false
there out at n h = le-ltb _ _ (omega (arith, ap length (take_rest out at), length-drop at out))

module _ {U : Type 0} (code : U → List ℕ) (n : ℕ) (long : (u : U) → length (code u) ≡ n) where
  pub length_joined : (us : List U) → length (flat_map code us) ≡ n * length us
  length_joined [] = sym (mul-zero n)
  length_joined (u ∷ us) = omega (arith, length-append (code u) (flat_map code us), long u, length_joined us, mul-suc n (length us))

  joined_next : (us : List U) (i : ℕ) (u : U) → i < length us → u ≡ get_or us i u → flat_map code (take (i + 1) us) ≡ flat_map code (take i us) ++ code u
  joined_next us i u h e =
      ap (flat_map code) (take_more us i u h ∙ ap (λ v. take i us ++ (v ∷ [])) (sym e)) ∙ sym (flat_map_more code [] (take i us) u)

  -- the code at index i is laid at `out[at..]`, after the codes before it
  pub laid_more : (entry out last : List ℕ) (us : List U) (i at : ℕ) (u : U) → i < length us → u ≡ get_or us i u → at ≡ n * i → at + n ≤ length out
      → out ≡ flat_map code (take i us) ++ drop at entry → last ≡ laid n (code u) (take (length out - at) (drop at out))
      → put_mid at (length out - at) out last ≡ flat_map code (take (i + 1) us) ++ drop (at + n) entry
  laid_more entry out last us i at u h e f room g w =
      let front = flat_map code (take i us) in
      let k : length front ≡ at = length_joined (take i us) ∙ ap (λ m. n * m) (length-take-le i us (omega arith)) ∙ sym f in
      let a : take at out ≡ front = ap (take at) g ∙ take_at front (drop at entry) at k in
      let b : drop at out ≡ drop at entry = ap (drop at) g ∙ drop_at front (drop at entry) at k in
      let part : take (length out - at) (drop at out) ≡ drop at out = take_rest out at in
      let put : last ≡ code u ++ drop (at + n) entry = w ∙ cond-false _ _ _ (there out at n room) ∙ ap (λ t. code u ++ drop n t) (part ∙ b) ∙ ap (λ t. code u ++ t) (drop-drop n at entry) in
      let none : drop (length out - at) (drop at out) ≡ [] = drop_all (length out - at) (drop at out) (omega (arith, length-drop at out)) in
      (λ j. a j ++ (put j ++ none j)) ∙ ap (λ t. front ++ t) (append-nil _) ∙ sym (append_assoc front (code u) (drop (at + n) entry))
      ∙ ap (λ t. t ++ drop (at + n) entry) (sym (joined_next us i u h e))
