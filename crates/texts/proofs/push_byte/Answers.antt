use Rattle.std.proofs.Common.{◌≡◌, ℕ, List, [], ◌∷◌, ◌++◌, ap, ◌∙◌}
use Rattle.std.proofs.lemmas.List.{append_assoc}
use Rattle.texts.proofs.push_byte.Goals as goal

-- three characters appended one by one
three : (s t u v : List ℕ) (x y z y' z' : ℕ) → y' ≡ y → z' ≡ z → t ≡ s ++ x ∷ [] → u ≡ t ++ y' ∷ [] → v ≡ u ++ z' ∷ [] → v ≡ s ++ x ∷ y ∷ z ∷ []
three s t u v x y z y' z' d e p q r =
    let flat : s ++ x ∷ [] ++ y' ∷ [] ++ z' ∷ [] ≡ s ++ x ∷ y' ∷ z' ∷ [] = simp append_assoc in
    r ∙ ap (λ l. l ++ z' ∷ []) (q ∙ ap (λ l. l ++ y' ∷ []) p) ∙ flat ∙ (λ i. s ++ x ∷ d i ∷ e i ∷ [])

pub returns : goal.returns
returns c =
    three _ _ _ _ _ _ _ _ _ c.digit.ensures.value c.digit-2.ensures.value c.in_ok-push_ascii.ensures c.in_ok-push_ascii-2.ensures c.in_ok-push_ascii-3.ensures
