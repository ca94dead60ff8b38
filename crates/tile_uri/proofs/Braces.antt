-- Templates are split at their braces.
use Rattle.std.proofs.Common.{◌≡◌, ℕ, ◌+◌, ◌<◌, ◌≤◌, ◌==◌, ◌&&◌, Bool, true, false, ltb, List, [], ◌∷◌, ◌++◌, length, get_or, Some, None, Ok, Err, refl, sym, ap, ◌∙◌, ⊎_elim, append_assoc, arith}
use Rattle.std.specs.Prelude.{Option, option_map, is_some, not}
use Rattle.std.specs.Option.{option_or, option_and_then}
use Rattle.std.specs.List.{position_or_len, before_first, after_first}
use Rattle.std.proofs.lemmas.Bool.{cases_Bool, cond-true, cond-false, lt-ltb, true≢false}
use Rattle.std.proofs.lemmas.Bool.Decides.{nat_tests}
use Rattle.std.proofs.lemmas.List.Elements.{All-from_get_or}
use Rattle.std.proofs.lemmas.List.Sums.{passes_at_first, fails_before_first}
use Rattle.url.specs.Input.{split_once}
use Rattle.url.proofs.InputLemmas.{IsNot, split_once_none, split_once_at_first}
use Rattle.tile_uri.specs.declared.address.TheConstants.{ADDRESS_LIMIT}
use Rattle.tile_uri.specs.declared.error.UriError.TheVariants.{Placeholder, TooLong}
use Rattle.tile_uri.specs.declared.part.Part.{Part}
use Rattle.tile_uri.specs.declared.variable.Variable.TheVariants.{Level, X, Y, Z}
use Rattle.tile_uri.specs.Templates.{is_template, part_at, part_of, parts_of, split_at_braces, template_of, texts_behind}

-- how much there is left to read
abbrev pub left : Option (List ℕ) → ℕ
left None = 0
left (Some text) = length text + 1

-- what stands before the first brace, and the texts behind it
pub split_at_braces-split_once : (text : List ℕ)
    → split_at_braces text ≡ ((split_once 123 text).0, texts_behind (split_once 123 text).1)
unfolding split_once
split_at_braces-split_once [] = refl
split_at_braces-split_once (b ∷ text) =
    let later = split_at_braces-split_once text in
    ⊎_elim
    (λ (here : (b == 123) ≡ true).
    rw here (λ i. ([], (split_at_braces text).0 ∷ (split_at_braces text).1)))
    (λ (other : (b == 123) ≡ false). rw other (λ i. (b ∷ (later i).0, (later i).1)))
    (cases_Bool (b == 123))

-- the texts behind a brace: the text up to the next one, and those behind that
pub texts_behind-split : (rest : Option (List ℕ)) (text first : List ℕ) (more : Option (List ℕ))
    → rest ≡ Some text → first ≡ (split_once 123 text).0 → more ≡ (split_once 123 text).1
    → texts_behind rest ≡ first ∷ texts_behind more
texts_behind-split rest text first more here before after =
    ap texts_behind here
    ∙ (λ i. (split_at_braces-split_once text i).0 ∷ (split_at_braces-split_once text i).1)
    ∙ (λ i. sym before i ∷ texts_behind (sym after i))

pub texts_behind-first : (text : List ℕ) (behind : Option (List ℕ))
    → behind ≡ (split_once 123 text).1 → texts_behind behind ≡ (split_at_braces text).1
texts_behind-first text behind is =
    ap texts_behind is ∙ sym (ap (λ r. r.1) (split_at_braces-split_once text))

less_left : (text : List ℕ) → left (split_once 123 text).1 < length text + 1
unfolding split_once
less_left [] = omega arith
less_left (b ∷ text) =
    let later = less_left text in
    ⊎_elim
    (λ (here : (b == 123) ≡ true). rw here (omega arith))
    (λ (other : (b == 123) ≡ false). rw other (omega arith))
    (cases_Bool (b == 123))

-- less is left behind a brace
pub left-split : (rest : Option (List ℕ)) (text : List ℕ) (more : Option (List ℕ))
    → rest ≡ Some text
    → more ≡ (split_once 123 text).1 → left more < left rest
left-split rest text more here after = omega (arith, less_left text, ap left here, ap left after)

abbrev is_brace : ℕ → Bool
is_brace b = b == 123

pub first_brace : (text : List ℕ) → position_or_len is_brace text < length text
    → split_once 123 text ≡ (before_first is_brace text, Some (after_first is_brace text))
first_brace text inside =
    let place = position_or_len is_brace text in
    let here : (get_or text place 0 == 123) ≡ true = passes_at_first is_brace text 0 inside in
    split_once_at_first 123 text place inside (grind (arith, nat_tests))
    (λ k below same. true≢false
    (sym (ap is_brace same) ∙ fails_before_first is_brace text k 0 below))

pub no_brace : (text : List ℕ) → position_or_len is_brace text ≡ length text
    → split_once 123 text ≡ (text, None)
no_brace text all =
    split_once_none 123 text (All-from_get_or (IsNot 123) text 0 (λ k inside same.
    true≢false (sym (ap is_brace same)
    ∙ fails_before_first is_brace text k 0 (omega (arith, all)))))

-- ---- parts so far, with those that are left

-- the parts so far, and behind them those of the texts that are left
abbrev pub with_parts : List Part → Option (List Part) → Option (List Part)
with_parts so_far later = option_map (λ parts. so_far ++ parts) later

moved : (so_far : List Part) (part : Part) (later : Option (List Part))
    → with_parts (so_far ++ part ∷ []) later
    ≡ with_parts so_far (option_map (λ parts. part ∷ parts) later)
moved so_far part None = refl
moved so_far part (Some parts) = ap Some (append_assoc so_far (part ∷ []) parts)

-- the parts of the texts that are left, behind the part of the first
abbrev behind_part : Bool → List (List ℕ) → Option Part → Option (List Part)
behind_part octree more first =
    option_and_then (λ part. option_map (λ parts. part ∷ parts) (parts_of octree more)) first

pub one_more : (octree : Bool) (so_far : List Part) (part : Part) (text : List ℕ)
    (more : List (List ℕ))
    → part_at octree text ≡ Some part
    → with_parts (so_far ++ part ∷ []) (parts_of octree more)
    ≡ with_parts so_far (parts_of octree (text ∷ more))
one_more octree so_far part text more here =
    moved so_far part (parts_of octree more)
    ∙ ap (λ first. with_parts so_far (behind_part octree more first)) (sym here)

pub no_more : (octree : Bool) (text : List ℕ) (more : List (List ℕ)) → part_at octree text ≡ None
    → parts_of octree (text ∷ more) ≡ None
no_more octree text more none = ap (behind_part octree more) none

pub is_some-option_map : {A B : Type 0} (f : A → B) (o : Option A)
    → is_some (option_map f o) ≡ is_some o
is_some-option_map f None = refl
is_some-option_map f (Some x) = refl

is_some-behind_part : (octree : Bool) (more : List (List ℕ)) (first : Option Part)
    → is_some (behind_part octree more first) ≡ (is_some first && is_some (parts_of octree more))
is_some-behind_part octree more None = refl
is_some-behind_part octree more (Some part) =
    is_some-option_map (λ parts. part ∷ parts) (parts_of octree more)

-- all texts begin with variables where the first does and the others do
pub is_some-parts_of : (octree : Bool) (text : List ℕ) (more : List (List ℕ))
    → is_some (parts_of octree (text ∷ more))
    ≡ (is_some (part_at octree text) && is_some (parts_of octree more))
is_some-parts_of octree text more = is_some-behind_part octree more (part_at octree text)

-- ---- what is read of a quadtree's template is read of it in an octree too

wider : (a b c d : Option Part) (p : Part)
    → option_or a (option_or b (option_or c None)) ≡ Some p
    → option_or a (option_or b (option_or c d)) ≡ Some p
wider (Some x) b c d p e = e
wider None (Some x) c d p e = e
wider None None (Some x) d p e = e
wider None None None d p e = cc

wider_part : (octree : Bool) (text : List ℕ) (p : Part) → part_at octree text ≡ Some p
    → part_at true text ≡ Some p
wider_part true text p e = e
wider_part false text p e =
    wider (part_of Level text) (part_of X text) (part_of Y text) (part_of Z text) p e

pub wider_parts : (octree : Bool) (texts : List (List ℕ)) (parts : List Part)
    → parts_of octree texts ≡ Some parts → parts_of true texts ≡ Some parts
wider_parts octree [] parts e = e
wider_parts octree (text ∷ texts) parts e =
    step (part_at octree text) refl (parts_of octree texts)
    (λ r f. wider_parts octree texts r f) refl e
  where
    step : (p : Option Part) → part_at octree text ≡ p → (r : Option (List Part))
        → ((ps : List Part) → parts_of octree texts ≡ Some ps → parts_of true texts ≡ Some ps)
        → parts_of octree texts ≡ r
        → option_and_then (λ part. option_map (λ parts. part ∷ parts) r) p ≡ Some parts
        → parts_of true (text ∷ texts) ≡ Some parts
    step (Some p) here (Some r) later f h =
        let first = wider_part octree text p here in
        (λ i. option_and_then (λ part. option_map (λ parts. part ∷ parts) (later r f i)) (first i))
        ∙ h
    step (Some p) here None later f h = cc
    step None here r later f h = cc

-- ---- the answer

pub refused : (octree : Bool) (text : List ℕ) → is_template octree text ≡ false
    → template_of octree text ≡ Err Placeholder
refused octree text none = cond-true _ _ _ (ap not none)

pub too_long : (octree : Bool) (text : List ℕ) → is_template octree text ≡ true
    → ADDRESS_LIMIT < length text → template_of octree text ≡ Err TooLong
too_long octree text is long =
    cond-false _ _ _ (ap not is) ∙ cond-true _ _ _ (lt-ltb ADDRESS_LIMIT (length text) long)

pub accepted : (octree : Bool) (text : List ℕ) → is_template octree text ≡ true
    → length text ≤ ADDRESS_LIMIT → template_of octree text ≡ Ok text
accepted octree text is short =
    let fits : ltb ADDRESS_LIMIT (length text) ≡ false = grind (arith, nat_tests) in
    cond-false _ _ _ (ap not is) ∙ cond-false _ _ _ fits
