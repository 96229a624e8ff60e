-- A pack is made where each of its four samples is.
use Rattle.std.proofs.Common.{◌≡◌, Bool, true, false, cond, ◌||◌, ℤ, Ok, Err, Result, sym, refl, ap, ◌∙◌}
use Rattle.std.proofs.lemmas.Bool.{cond-true, cond-false}
use Rattle.faults.specs.declared.units.UnitFault.{UnitFault}
use Rattle.kinds.specs.declared.bits24.Bits24.{Bits24}
use Rattle.kinds.specs.Bits.{outside, made_signed}
use Rattle.pack.specs.Makings.{made}

inside : (b : Bool) (f : UnitFault) (x y : Bits24) → ◌≡◌ {A = Result Bits24 UnitFault} (Ok x) (cond b (Err f) (Ok y)) → (b ≡ false) × (x ≡ y)
inside true f x y e = cc
inside false f x y e = (refl, cc)

refused : (b : Bool) (f g : UnitFault) (y : Bits24) → ◌≡◌ {A = Result Bits24 UnitFault} (Err g) (cond b (Err f) (Ok y)) → (b ≡ true) × (g ≡ f)
refused true f g y e = (refl, cc)
refused false f g y e = cc

tests : (p q r s t : Bool) → p ≡ false → q ≡ false → r ≡ false → s ≡ t → ((p || q) || (r || s)) ≡ t
tests p q r s t e f g h = rw (e, f, g) h

module _ (a b c d : ℤ) (w x y : Bits24) (e : Ok w ≡ made_signed a) (f : Ok x ≡ made_signed b) (g : Ok y ≡ made_signed c) where
  test : (t : Bool) → outside d ≡ t → ((outside a || outside b) || (outside c || outside d)) ≡ t
  test t h = tests _ _ _ _ t (inside (outside a) _ w _ e).0 (inside (outside b) _ x _ f).0 (inside (outside c) _ y _ g).0 h

  pub all_made : (z : Bits24) → Ok z ≡ made_signed d → Ok (record { first = w; second = x; third = y; fourth = z }) ≡ made a b c d
  all_made z h =
      let l = inside (outside d) _ z _ h in
      (λ j. Ok (record { first = (inside (outside a) _ w _ e).1 j; second = (inside (outside b) _ x _ f).1 j; third = (inside (outside c) _ y _ g).1 j; fourth = l.1 j }))
      ∙ sym (cond-false _ _ _ (test false l.0))

  pub last_refused : (k : UnitFault) → Err k ≡ made_signed d → Err k ≡ made a b c d
  last_refused k h = let l = refused (outside d) _ k _ h in ap (λ v. Err v) l.1 ∙ sym (cond-true _ _ _ (test true l.0))
