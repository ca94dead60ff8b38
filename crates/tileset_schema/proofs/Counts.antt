-- Taking the spellings of a list of just so many numbers one after another.
use Rattle.std.proofs.Common.{◌≡◌, ℕ, suc, ◌+◌, ◌-◌, ◌<◌, ◌==◌, length, take, List, [], ◌∷◌, ◌++◌, Option, Some, None, Bool, true, false, if◌then◌else◌, Bor, slice_set, refl, ap, sym, ◌∙◌, append_assoc, arith}
use Rattle.std.proofs.lemmas.List.{map-set, take_more_set, length-set, length-map}
use Rattle.std.proofs.Math.Dec.{eqb-suc-suc}
use native.Mathlib.Numerals.{unary_clauses}
use Rattle.json_decimal.specs.JsonValue.{JsonValue}
use Rattle.json_decimal.specs.Named.{plain}
use Rattle.json_decimal.specs.Parts.{number_of, split_first}
use Rattle.json_decimal.proofs.Parted.{split_some}
use Rattle.tileset_schema.specs.Numbers.{◌>>=◌, counted, spellings}

-- the spellings so far, and those of the rest, of which there are just so many
abbrev pub filled : List (List ℕ) → ℕ → List JsonValue → Option (List (List ℕ))
filled front count rest = counted count rest >>= spellings >>= λ ss. Some (front ++ ss)

sizes : (m n : ℕ) → (suc m == n + 1) ≡ (m == n)
sizes m n = simp unary_clauses (eqb-suc-suc m n)

filled-more : (front : List (List ℕ)) (count : ℕ) (v : JsonValue) (vs : List JsonValue)
    (s : List ℕ)
    → Some s ≡ number_of v → filled front (count + 1) (v ∷ vs) ≡ filled (front ++ s ∷ []) count vs
filled-more front count v vs s e = rw (sizes (length vs) count) (at (length vs == count))
  where
    more : (o : Option (List (List ℕ)))
        → ((o >>= λ ss. Some (s ∷ ss)) >>= λ ss. Some (front ++ ss))
        ≡ (o >>= λ ss. Some ((front ++ s ∷ []) ++ ss))
    more None = refl
    more (Some ss) = ap Some (sym (append_assoc front (s ∷ []) ss))

    at : (b : Bool)
        → ((if b then Some (v ∷ vs) else None) >>= spellings >>= λ ss. Some (front ++ ss))
        ≡ ((if b then Some vs else None) >>= spellings >>= λ ss. Some ((front ++ s ∷ []) ++ ss))
    at false = refl
    at true = rw (← e) (more (spellings vs))

-- one more spelling is put in its place
pub filled_step : (places : List (Bor (List ℕ))) (i : ℕ) (s : Bor (List ℕ)) (v : JsonValue)
    (vs rest : List JsonValue)
    → i < length places → Some s.now ≡ number_of v → Some (v, vs) ≡ split_first rest
    → filled (take i (plain places)) (length places - i) rest
    ≡ filled (take (i + 1) (plain (slice_set places i s)))
    (length (slice_set places i s) - (i + 1)) vs
filled_step places i s v vs rest few number split =
    rw (
      split_some rest vs v split,
      one_less,
      filled-more (take i (plain places))
          (length places - (i + 1)) v vs s.now number,
      front,
      length-set places i s,
    ) refl
  where
    one_less : length places - i ≡ (length places - (i + 1)) + 1
    one_less = omega arith

    front : take (i + 1) (plain (slice_set places i s)) ≡ take i (plain places) ++ s.now ∷ []
    front = ap (take (i + 1)) (map-set (λ (t : Bor (List ℕ)). t.now) places i s)
        ∙ take_more_set (plain places) i s.now
        (rw (length-map places (λ (t : Bor (List ℕ)). t.now)) few)
