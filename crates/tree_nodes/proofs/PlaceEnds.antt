-- What the name of an implicit tile has behind that of its implicit root.
use Rattle.std.proofs.Common.{◌≡◌, ℕ, List, [], ◌∷◌, ◌++◌, ap, append_assoc, sym, ◌∙◌}

in_order : (x y depth : List ℕ)
    → 46 ∷ (x ++ (46 ∷ (y ++ depth))) ≡ (46 ∷ []) ++ x ++ (46 ∷ []) ++ y ++ depth
in_order x y depth =
    ap (λ t. 46 ∷ t) (sym (append_assoc (x ++ (46 ∷ [])) y depth
    ∙ append_assoc x (46 ∷ []) (y ++ depth)))

-- parts, each before the one that was written last
pub place_parts : (level x y depth d0 d1 d2 d3 : List ℕ) → d0 ≡ depth → d1 ≡ 46 ∷ (y ++ d0)
    → d2 ≡ 46 ∷ (x ++ d1) → d3 ≡ 33 ∷ (level ++ d2)
    → d3 ≡ (33 ∷ []) ++ level ++ ((46 ∷ []) ++ x ++ (46 ∷ []) ++ y ++ depth)
place_parts level x y depth d0 d1 d2 d3 e0 e1 e2 e3 =
    e3 ∙ ap (λ t. 33 ∷ (level ++ t)) (e2 ∙ ap (λ t. 46 ∷ (x ++ t)) (e1
    ∙ ap (λ t. 46 ∷ (y ++ t)) e0) ∙ in_order x y depth)
