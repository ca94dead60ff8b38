-- What an iterator yields that takes the first of what is left.
use Rattle.std.proofs.Common.{◌≡◌, List, [], ◌∷◌, length, Option, Some, None, option_map, MatchOption, ap, arith}
use Rattle.std.specs.Prelude.{IfNone}
use Rattle.std.specs.Iterator.{MakesProgress, item_count}
use Rattle.json_decimal.specs.Parts.{split_first}
use Rattle.json_decimal.proofs.Parted.{split_none, split_some}

pub yields_first : {A B : Type 0} (view : A → B) (r : Option A) (xs ys : List B)
    → option_map (λ x. (view x, ys)) r ≡ split_first xs → IfNone r (ys ≡ [])
    → MatchOption r ((xs ≡ []) × (ys ≡ [])) (λ x. xs ≡ view x ∷ ys)
yields_first view None xs ys h e = (split_none xs h, e)
yields_first view (Some x) xs ys h e = split_some xs ys (view x) h

pub fewer_left : {S A B : Type 0} (view : A → B) (rest : S → List B) (s t : S) (r : Option A)
    → MatchOption r ((rest s ≡ []) × (rest t ≡ [])) (λ x. rest s ≡ view x ∷ rest t)
    → MakesProgress (λ _. Unit {0}) (item_count rest) s r t
fewer_left view rest s t None m = record { on = λ _. tt; keeps = tt; rests = λ _. tt }
fewer_left view rest s t (Some x) m =
    record { on = λ _. (tt, tt, omega (arith, ap length m)); keeps = tt; rests = λ _. tt }
