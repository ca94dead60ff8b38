-- Reading step by step: what is read, or the first cause why it isn't.
use Rattle.std.specs.Prelude.{List, [], ◌∷◌, Option, Some, None, Result, Ok, Err}

-- one step and then another: the first cause counts
infixl 10 ◌>>=◌
abbrev pub ◌>>=◌ : {E A B : Type 0} → Result A E → (A → Result B E) → Result B E
(Ok x) >>= f = f x
(Err e) >>= f = Err e

-- what is there, or this cause
abbrev pub or_cause : {E A : Type 0} → E → Option A → Result A E
or_cause e (Some x) = Ok x
or_cause e None = Err e

-- what a member gives, or the default where there is none
abbrev pub or_default : {E A V : Type 0} → A → (V → Result A E) → Option V → Result A E
or_default d read None = Ok d
or_default d read (Some v) = read v

-- what a member gives, where it is there
abbrev pub if_there : {E A V : Type 0} → (V → Result A E) → Option V → Result (Option A) E
if_there read None = Ok None
if_there read (Some v) = read v >>= λ x. Ok (Some x)

-- what each gives, in order
abbrev pub each : {E A B : Type 0} → (A → Result B E) → List A → Result (List B) E
each read [] = Ok []
each read (x ∷ xs) = read x >>= λ y. each read xs >>= λ ys. Ok (y ∷ ys)

-- what is read, seen by `view`
abbrev pub seen_by : {E X A : Type 0} → (X → A) → Result X E → Result A E
seen_by view (Ok x) = Ok (view x)
seen_by view (Err e) = Err e
