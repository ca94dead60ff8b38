-- What a search finds.
use Rattle.std.proofs.Common.{◌≡◌, Bool, true, false, List, [], ◌∷◌, Option, Some, None, IfSome, cond, option_map, sym, subst, All, Bor}
use Rattle.std.specs.List.{find}
use Rattle.std.proofs.lemmas.List.Elements.{All-head, All-tail}

if_first : {X : Type 0} (P : X → Type 0) (test : X → Bool) (x : X) (xs : List X) (b : Bool) → P x
    → IfSome (find test xs) P → IfSome (cond b (Some x) (find test xs)) P
if_first P test x xs true here behind = here
if_first P test x xs false here behind = behind

-- what holds of each holds of the one that is found
if_found : {X : Type 0} (P : X → Type 0) (test : X → Bool) (xs : List X) → All P xs
    → IfSome (find test xs) P
if_found P test [] all = tt
if_found P test (x ∷ xs) all =
    if_first P test x xs (test x) (All-head P x xs all) (if_found P test xs (All-tail P x xs all))

of_referred : {X : Type 0} (P : X → Type 0) (r : Option (Bor X))
    → IfSome (option_map (λ x. x.now) r) P → IfSome r (λ x. P x.now)
of_referred P None h = tt
of_referred P (Some x) h = h

-- the same of a reference to it
pub if_referred : {X : Type 0} (P : X → Type 0) (test : X → Bool) (xs : List X)
    (r : Option (Bor X)) → option_map (λ x. x.now) r ≡ find test xs → All P xs
    → IfSome r (λ x. P x.now)
if_referred P test xs r e all =
    of_referred P r (subst (λ o. IfSome o P) (sym e) (if_found P test xs all))
