-- Texts of parts with a mark between each two.
use Rattle.std.proofs.Common.{◌≡◌, ◌≢◌, ◌∙◌, ◌<◌, length, get_or, Option, Some, None, Bor, ℕ, List}
use Rattle.std.proofs.Common.{[], ◌∷◌, ◌++◌, false, eqb, sym, ap, eq-eqb, refl}
use Rattle.std.specs.List.{All, join_with_byte}
use Rattle.std.proofs.lemmas.List.Elements.{All-head, All-tail}
use Rattle.std.proofs.lemmas.List.Splits.{slice_split_none, slice_split_at}
use Rattle.std.proofs.lemmas.List.Splits.{join_with_byte-slice_split}
use Rattle.std.proofs.lemmas.List.{get_or_default}
use Rattle.std.proofs.lemmas.Bool.{ne_eqb}
use Rattle.std.specs.Prelude.{IfSome, IsSomeAnd, MatchOption}
use Rattle.std.proofs.lemmas.Str.Pattern.{IsSplitOnceResult, split_after, split_parts}
use Rattle.session_script.specs.Ascii.{IsWithout, parts_at}

-- no byte is the mark
abbrev pub Lacks : ℕ → List ℕ → Type 0
Lacks mark text = All (λ byte. eqb byte mark ≡ false) text

-- joined parts fall apart into the same parts
pub parts-join : (mark : ℕ) (part : List ℕ) (more : List (List ℕ)) → All (Lacks mark) (part ∷ more)
    → parts_at mark (join_with_byte mark (part ∷ more)) ≡ part ∷ more
parts-join mark part [] h = slice_split_none (λ byte. eqb byte mark) part
    (All-head (Lacks mark) part [] h)
parts-join mark part (next ∷ more) h =
    slice_split_at (λ byte. eqb byte mark) part mark (join_with_byte mark (next ∷ more))
    (All-head (Lacks mark) part (next ∷ more) h) (eq-eqb mark mark refl)
    ∙ ap (λ parts. part ∷ parts) (parts-join mark next more
    (All-tail (Lacks mark) part (next ∷ more) h))

-- a text of one part is that part
pub only_part : (mark : ℕ) (text part : List ℕ) → parts_at mark text ≡ part ∷ [] → text ≡ part
only_part mark text part h = sym (join_with_byte-slice_split mark text)
    ∙ ap (λ parts. join_with_byte mark parts) h

-- ---- what `split_once` gives

pub without : (mark : ℕ) (text : List ℕ) → ((i : ℕ) → i < length text → get_or text i 0 ≢ mark)
    → IsWithout mark text
without mark text h k d below e = h k below (get_or_default text k 0 d below ∙ e)

pub lacking : (mark : ℕ) (text : List ℕ) → IsWithout mark text → Lacks mark text
lacking mark text h k d below = ne_eqb (get_or text k d) mark (h k d below)

pub cut_found : (mark : ℕ) (text : List ℕ) (r : Option (Bor (List ℕ) × Bor (List ℕ)))
    → IsSplitOnceResult mark text r → mark < 128 → IfSome r (λ x. text ≡ x.0.now ++ mark ∷ x.1.now)
cut_found mark text None h low = tt
cut_found mark text (Some x) h low = (split_parts mark text (Some x) h low).0

pub cut_spelled : (mark : ℕ) (text first rest : List ℕ) (r : Option (Bor (List ℕ) × Bor (List ℕ)))
    → IsSplitOnceResult mark text r → mark < 128 → IsWithout mark first
    → text ≡ first ++ mark ∷ rest → IsSomeAnd r (λ x. (x.0.now ≡ first) × (x.1.now ≡ rest))
cut_spelled mark text first rest None h low none e =
    split_after mark text first rest None h low e (λ i below. none i 0 below)
cut_spelled mark text first rest (Some x) h low none e =
    split_after mark text first rest (Some x) h low e (λ i below. none i 0 below)

pub cut_parts : (mark : ℕ) (text : List ℕ) (r : Option (Bor (List ℕ) × Bor (List ℕ)))
    → IsSplitOnceResult mark text r → mark < 128
    → MatchOption r (parts_at mark text ≡ text ∷ [])
    (λ x. parts_at mark text ≡ x.0.now ∷ parts_at mark x.1.now)
cut_parts mark text None h low =
    slice_split_none (λ byte. eqb byte mark) text
    (lacking mark text (without mark text (split_parts mark text None h low)))
cut_parts mark text (Some x) h low =
    let parts = split_parts mark text (Some x) h low in
    ap (λ t. parts_at mark t) parts.0
    ∙ slice_split_at (λ byte. eqb byte mark) x.0.now mark x.1.now
    (lacking mark x.0.now (without mark x.0.now parts.1)) (eq-eqb mark mark refl)

-- the parts that a text falls into make it up
pub joined : (mark : ℕ) (text : List ℕ) (parts : List (List ℕ)) → parts_at mark text ≡ parts
    → text ≡ join_with_byte mark parts
joined mark text parts h = sym (join_with_byte-slice_split mark text)
    ∙ ap (λ parts. join_with_byte mark parts) h
