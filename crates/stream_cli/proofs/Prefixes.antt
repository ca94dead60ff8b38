-- What a sink holds behind pieces that are put one after another.
use Rattle.std.proofs.Common.{◌≡◌, ℕ, ◌<◌, ◌+◌, List, [], ◌∷◌, ◌++◌, length, take, drop, Option, Some, None}
use Rattle.std.proofs.Common.{refl, sym, ap, ◌∙◌, append_assoc, append-nil, get_or, add-one, drop-cons}
use Rattle.std.proofs.lemmas.List.{take-append-drop}
use Rattle.std.proofs.lemmas.Grind.{flat_map-append}
use Rattle.std.specs.List.{flat_map}
use Rattle.std.specs.Io.KnownBytes.{Appends}
use Rattle.source_port.specs.Puts.{AppendsPrefix}

pub appends_nothing : (a : Option (List ℕ)) → Appends a a []
appends_nothing None = tt
appends_nothing (Some xs) = sym (append-nil xs)

pub appends_both : (a b c : Option (List ℕ)) (xs ys : List ℕ) → Appends a b xs
    → Appends b c ys → Appends a c (xs ++ ys)
appends_both None b c xs ys h k = tt
appends_both (Some held) None c xs ys h k = absurd h
appends_both (Some held) (Some bs) None xs ys h k = absurd k
appends_both (Some held) (Some bs) (Some cs) xs ys h k = rw (k, h, append_assoc) refl

-- a front stays one where more is to come
pub front_of_more : (a b : Option (List ℕ)) (xs ys : List ℕ) → AppendsPrefix a b xs
    → AppendsPrefix a b (xs ++ ys)
front_of_more a b xs ys h = record {
  front = h.front;
  rest = h.rest ++ ys;
  parts = rw h.parts (simp append_assoc);
  appended = h.appended;
}

-- a front of the next piece is one of both
pub front_behind : (a b c : Option (List ℕ)) (xs ys : List ℕ) → Appends a b xs
    → AppendsPrefix b c ys → AppendsPrefix a c (xs ++ ys)
front_behind a b c xs ys h k = record {
  front = xs ++ k.front;
  rest = k.rest;
  parts = rw k.parts (simp append_assoc);
  appended = appends_both a b c xs k.front h k.appended;
}

-- the lines before one were put
pub stopped_before : {A : Type 0} (f : A → List ℕ) (xs : List A) (i : ℕ)
    (a b : Option (List ℕ)) → Appends a b (flat_map f (take i xs))
    → AppendsPrefix a b (flat_map f xs)
stopped_before f xs i a b h = record {
  front = flat_map f (take i xs);
  rest = flat_map f (drop i xs);
  parts =
      sym (ap (flat_map f) (take-append-drop i xs))
      ∙ flat_map-append f (take i xs) (drop i xs);
  appended = h;
}

-- a list in three: what stands before a place, at it and behind it
pub flat_map_at : {A B : Type 0} (f : A → List B) (xs : List A) (i : ℕ) (x : A) → i < length xs
    → x ≡ get_or xs i x
    → flat_map f xs ≡ flat_map f (take i xs) ++ (f x ++ flat_map f (drop (i + 1) xs))
flat_map_at f xs i x h e =
    ap (flat_map f) (sym (take-append-drop i xs))
    ∙ flat_map-append f (take i xs) (drop i xs)
    ∙ ap (λ ys. flat_map f (take i xs) ++ flat_map f ys)
    (rw (add-one i) (drop-cons xs i x h) ∙ ap (λ y. y ∷ drop (i + 1) xs) (sym e))

-- the lines before one were put, and a front of that one
pub stopped_within : {A : Type 0} (f : A → List ℕ) (xs : List A) (i : ℕ) (x : A)
    (a b c : Option (List ℕ)) → i < length xs → x ≡ get_or xs i x
    → Appends a b (flat_map f (take i xs)) → AppendsPrefix b c (f x)
    → AppendsPrefix a c (flat_map f xs)
stopped_within f xs i x a b c h e put front =
    rw (flat_map_at f xs i x h e)
    (front_behind a b c (flat_map f (take i xs)) (f x ++ flat_map f (drop (i + 1) xs)) put
    (front_of_more b c (f x) (flat_map f (drop (i + 1) xs)) front))
