-- The end of a tile's line.
use Rattle.std.proofs.Common.{◌≡◌, ℕ, List, [], ◌∷◌, ◌++◌, ap, append_assoc, sym, ◌∙◌}

in_order : (refine error volume blank feed : List ℕ)
    → refine ++ (blank ++ (error ++ (blank ++ (volume ++ feed))))
    ≡ refine ++ blank ++ error ++ blank ++ volume ++ feed
in_order refine error volume blank feed =
    sym (append_assoc (refine ++ blank ++ error ++ blank) volume feed
    ∙ append_assoc (refine ++ blank ++ error) blank (volume ++ feed)
    ∙ append_assoc (refine ++ blank) error (blank ++ (volume ++ feed))
    ∙ append_assoc refine blank (error ++ (blank ++ (volume ++ feed))))

-- parts, each before the one that was written last
pub end_parts : (refine error volume d0 d1 d2 d3 d4 d5 d6 d7 : List ℕ) → d0 ≡ []
    → d1 ≡ (10 ∷ []) ++ d0 → d2 ≡ volume ++ d1 → d3 ≡ (32 ∷ []) ++ d2 → d4 ≡ error ++ d3
    → d5 ≡ (32 ∷ []) ++ d4 → d6 ≡ refine ++ d5 → d7 ≡ (32 ∷ []) ++ d6
    → d7 ≡ 32 ∷ (refine ++ (32 ∷ []) ++ error ++ (32 ∷ []) ++ volume ++ (10 ∷ []))
end_parts refine error volume d0 d1 d2 d3 d4 d5 d6 d7 e0 e1 e2 e3 e4 e5 e6 e7 =
    e7 ∙ ap (λ t. 32 ∷ t) (e6 ∙ ap (λ t. refine ++ t) (e5 ∙ ap (λ t. 32 ∷ t)
    (e4 ∙ ap (λ t. error ++ t) (e3 ∙ ap (λ t. 32 ∷ t) (e2 ∙ ap (λ t. volume ++ t)
    (e1 ∙ ap (λ t. 10 ∷ t) e0))))) ∙ in_order refine error volume (32 ∷ []) (10 ∷ []))
