-- A view within the limits is the view of its text.
use Rattle.std.proofs.Common.{◌≡◌, ◌∙◌, ℕ, suc, ◌<◌, ◌^◌, ℤ, pos, negsuc, neg_ℤ, slice_index, ◌==◌, Bool, true, false, Option, Some, None, List, [], ◌∷◌, ◌++◌, map, All, ap, sym, refl, arith, w64, append_assoc, if◌then◌else◌}
use Rattle.std.proofs.lemmas.Bool.{and_parts, ne_eqb}
use Rattle.std.proofs.lemmas.Bool.Decides.{nat_tests}
use Rattle.std.proofs.lemmas.Fmt.{decimal_nonempty, digits_decimal, digits_value-decimal}
use Rattle.std.proofs.lemmas.Int.{fits_signed_from_abs}
use Rattle.std.proofs.lemmas.List.Elements.{All-cons, All-head, All-nil, All-tail}
use Rattle.std.proofs.lemmas.List.Splits.{slice_split_at, slice_split_none}
use Rattle.std.proofs.lemmas.Slice.Eq.{bytes_eq-Decides}
use Rattle.std.proofs.lemmas.Str.Parse.{IsNumeralModel, digit_from_value, not_in_digits}
use Rattle.std.proofs.lemmas.Str.Parse.{numerals_by_value, tells_digits}
use Rattle.std.proofs.lemmas.Str.Parse.{without_leading_plus_none}
use Rattle.std.specs.Fmt.{decimal, signed_decimal}
use Rattle.std.specs.Int.{IsInRange}
use Rattle.std.specs.List.{join_with_byte}
use Rattle.std.specs.Prelude.{FitsSigned, IfSome, bytes_eq, is_none}
use Rattle.std.specs.Str.Parse.{AllDigits, digits_value, signed_digits_value, without_leading_plus}
use Rattle.volumes.specs.declared.plane.Plane.{Plane}
use Rattle.error_test.specs.Views.{ViewParts, field_past_limit}
use Rattle.error_test.specs.declared.view.Field.{Field}
use Rattle.session_script.specs.Ascii.{colon, comma, slash}
use Rattle.session_script.specs.ViewTexts.{IsPlaneOf64, IsWithinLimits, text_of_plane}
use Rattle.session_script.specs.ViewTexts.{text_of_view}
use Rattle.session_script.specs.ViewTexts.{text_of_fields, text_of_tangent}
use Rattle.session_script.proofs.ViewFields.{Fits, text_of_view-is, view_fits}
use Rattle.session_script.specs.Chains.{◌>>=◌}
use Rattle.session_script.specs.Views.{is_between_numbers, numbers_in, planes_of, spells, view_of}
use Rattle.session_script.specs.Views.{view_of_numbers}

own : IsNumeralModel (AllDigits 10) (digits_value 10)
own = numerals_by_value (AllDigits 10) tells_digits

-- ---- a number

-- no byte of the text stands between numbers
abbrev AllInside : List ℕ → Type 0
AllInside text = All (λ byte. is_between_numbers byte ≡ false) text

digit_inside : (byte : ℕ) → IsInRange 48 57 byte → is_between_numbers byte ≡ false
digit_inside byte digit = grind (arith, nat_tests)

digits_inside : (text : List ℕ) → AllDigits 10 text → AllInside text
digits_inside [] all = All-nil (λ byte. is_between_numbers byte ≡ false)
digits_inside (byte ∷ text) all =
    All-cons (λ byte. is_between_numbers byte ≡ false) byte text
    (digit_inside byte (digit_from_value byte all.0)) (digits_inside text all.1)

number_inside : (z : ℤ) → FitsSigned w64 z → AllInside (signed_decimal z)
number_inside (pos n) fits =
    let small : n < 2 ^ 63 = fits.sfits in
    digits_inside (decimal n) (digits_decimal own n (omega arith))
number_inside (negsuc n) fits =
    let small : n < 2 ^ 63 = fits.sfits in
    All-cons (λ byte. is_between_numbers byte ≡ false) 45 (decimal (suc n)) refl
    (digits_inside (decimal (suc n)) (digits_decimal own (suc n) (omega arith)))

unsigned_value : (n : ℕ) → n < 2 ^ 63 → signed_digits_value 10 (decimal n) ≡ pos n
unsigned_value n small =
    let all = digits_decimal own n (omega arith) in
    let some = decimal_nonempty n (omega arith) in
    let minus : (slice_index (decimal n) 0 == 45) ≡ false = ne_eqb (slice_index (decimal n) 0) 45
    (not_in_digits own (decimal n) 45 all (λ h. omega (arith, h)) 0 some) in
    let plus : without_leading_plus (decimal n) ≡ decimal n = without_leading_plus_none (decimal n)
    (not_in_digits own (decimal n) 43 all (λ h. omega (arith, h)) 0 some) in
    rw (minus, plus) (ap pos (digits_value-decimal own n (omega arith)))

number_value : (z : ℤ) → FitsSigned w64 z → signed_digits_value 10 (signed_decimal z) ≡ z
number_value (pos n) fits = unsigned_value n fits.sfits
number_value (negsuc n) fits =
    let small : n < 2 ^ 63 = fits.sfits in
    ap (λ m. neg_ℤ (pos m)) (digits_value-decimal own (suc n) (omega arith))

-- ---- the numbers of a text

number_last : (z : ℤ) → FitsSigned w64 z → numbers_in (signed_decimal z) ≡ z ∷ []
number_last z fits =
    ap (map (signed_digits_value 10))
    (slice_split_none is_between_numbers (signed_decimal z) (number_inside z fits))
    ∙ ap (λ n. n ∷ []) (number_value z fits)

number_then : (z : ℤ) → FitsSigned w64 z → (mark : ℕ) → is_between_numbers mark ≡ true
    → (rest : List ℕ) → numbers_in (signed_decimal z ++ mark ∷ rest) ≡ z ∷ numbers_in rest
number_then z fits mark between rest =
    ap (map (signed_digits_value 10))
    (slice_split_at is_between_numbers (signed_decimal z) mark rest (number_inside z fits) between)
    ∙ ap (λ n. n ∷ numbers_in rest) (number_value z fits)

-- ---- the numbers of fields

-- what stands before a mark in the first field stands before it in all of them
join-front : (mark : ℕ) (front rest : List ℕ) (fields : List (List ℕ))
    → join_with_byte colon ((front ++ mark ∷ rest) ∷ fields)
    ≡ front ++ mark ∷ join_with_byte colon (rest ∷ fields)
join-front mark front rest [] = refl
join-front mark front rest (field ∷ fields) =
    append_assoc front (mark ∷ rest) (colon ∷ join_with_byte colon (field ∷ fields))

-- a number in the first field, and more of that field behind it
part_then : (z : ℤ) → FitsSigned w64 z → (mark : ℕ) → is_between_numbers mark ≡ true
    → (rest : List ℕ) (fields : List (List ℕ))
    → numbers_in (join_with_byte colon ((signed_decimal z ++ mark ∷ rest) ∷ fields))
    ≡ z ∷ numbers_in (join_with_byte colon (rest ∷ fields))
part_then z fits mark between rest fields =
    ap numbers_in (join-front mark (signed_decimal z) rest fields)
    ∙ number_then z fits mark between (join_with_byte colon (rest ∷ fields))

-- a first field of one number, and further fields
field_then : (z : ℤ) → FitsSigned w64 z → (field : List ℕ) (fields : List (List ℕ))
    → numbers_in (join_with_byte colon (signed_decimal z ∷ field ∷ fields))
    ≡ z ∷ numbers_in (join_with_byte colon (field ∷ fields))
field_then z fits field fields =
    number_then z fits colon refl (join_with_byte colon (field ∷ fields))

numbers_of_planes : List Plane → List ℤ
numbers_of_planes [] = []
numbers_of_planes (p ∷ planes) = p.n.x ∷ p.n.y ∷ p.n.z ∷ p.d ∷ numbers_of_planes planes

-- a last number of a field, and planes behind it
planes_behind : (z : ℤ) → FitsSigned w64 z → (planes : List Plane) → All IsPlaneOf64 planes
    → numbers_in (join_with_byte colon (signed_decimal z ∷ map text_of_plane planes))
    ≡ z ∷ numbers_of_planes planes
unfolding numbers_of_planes
planes_behind z fits [] all = number_last z fits
planes_behind z fits (p ∷ planes) all =
    let plane = All-head IsPlaneOf64 p planes all in
    let fields = map text_of_plane planes in
    let d = signed_decimal p.d in
    let zd = signed_decimal p.n.z ++ comma ∷ d in
    let yzd = signed_decimal p.n.y ++ comma ∷ zd in
    field_then z fits (text_of_plane p) fields
    ∙ ap (λ ns. z ∷ ns) (part_then p.n.x plane.normal.x comma refl yzd fields
    ∙ ap (λ ns. p.n.x ∷ ns) (part_then p.n.y plane.normal.y comma refl zd fields
    ∙ ap (λ ns. p.n.y ∷ ns) (part_then p.n.z plane.normal.z comma refl d fields
    ∙ ap (λ ns. p.n.z ∷ ns)
    (planes_behind p.d plane.offset planes (All-tail IsPlaneOf64 p planes all)))))

planes_again : (planes : List Plane) → planes_of (numbers_of_planes planes) ≡ planes
unfolding numbers_of_planes
planes_again [] = refl
planes_again (p ∷ planes) = ap (λ ps. p ∷ ps) (planes_again planes)

-- ---- a view

numbers_of_view : ViewParts → List ℤ
numbers_of_view v =
    v.eye.x ∷ v.eye.y ∷ v.eye.z ∷ pos v.height ∷ pos v.tan_over ∷ pos v.tan_under ∷ pos v.allowed
    ∷ numbers_of_planes v.planes

unsigned_fits : (n : ℕ) → n < 2 ^ 32 → FitsSigned w64 (pos n)
unsigned_fits n small = fits_signed_from_abs w64 (pos n) (omega arith)

numbers_of_fields : (v : ViewParts) → Fits v → numbers_in (text_of_fields v) ≡ numbers_of_view v
unfolding numbers_of_view text_of_fields
numbers_of_fields v fits =
    let planes = map text_of_plane v.planes in
    let allowed = decimal v.allowed in
    let under = decimal v.tan_under in
    let tangent = text_of_tangent v.tan_over v.tan_under in
    let from_tangent = tangent ∷ allowed ∷ planes in
    let from_height = decimal v.height ∷ from_tangent in
    let z = signed_decimal v.eye.z in
    let yz = signed_decimal v.eye.y ++ comma ∷ z in
    part_then v.eye.x fits.eye.x comma refl yz from_height
    ∙ ap (λ ns. v.eye.x ∷ ns) (part_then v.eye.y fits.eye.y comma refl z from_height
    ∙ ap (λ ns. v.eye.y ∷ ns) (field_then v.eye.z fits.eye.z (decimal v.height) from_tangent
    ∙ ap (λ ns. v.eye.z ∷ ns)
    (field_then (pos v.height) (unsigned_fits v.height fits.height) tangent (allowed ∷ planes)
    ∙ ap (λ ns. pos v.height ∷ ns)
    (part_then (pos v.tan_over) (unsigned_fits v.tan_over fits.tangent.over) slash refl under
    (allowed ∷ planes)
    ∙ ap (λ ns. pos v.tan_over ∷ ns)
    (field_then (pos v.tan_under) (unsigned_fits v.tan_under fits.tangent.under) allowed planes
    ∙ ap (λ ns. pos v.tan_under ∷ ns)
    (planes_behind (pos v.allowed) (unsigned_fits v.allowed fits.allowed) v.planes
    fits.planes))))))

view_of_its_numbers : (v : ViewParts) → Fits v
    → view_of_numbers (numbers_in (text_of_view v)) ≡ Some v
unfolding numbers_of_view
view_of_its_numbers v fits =
    ap (λ t. view_of_numbers (numbers_in t)) (text_of_view-is v)
    ∙ ap (λ ns. view_of_numbers (pos 0 ∷ ns)) (numbers_of_fields v fits)
    ∙ ap (λ planes. Some (record v { planes = planes })) (planes_again v.planes)

-- the view, if the text spells it
abbrev if_spelled : List ℕ → Option ViewParts → Option ViewParts
if_spelled text view = view >>= λ v. if spells text v then Some v else None

-- the view of a view's text is that view
pub view_of_text : (v : ViewParts) → IsWithinLimits v → view_of (text_of_view v) ≡ Some v
unfolding view_of
view_of_text v within =
    let same : bytes_eq (text_of_view v) (text_of_view v) ≡ true =
    (bytes_eq-Decides (text_of_view v) (text_of_view v)).1 refl in
    ap (if_spelled (text_of_view v)) (view_of_its_numbers v (view_fits v within))
    ∙ rw (same, within) refl

none_past : (field : Option Field) → is_none field ≡ true → field ≡ None
none_past None none = refl
none_past (Some field) none = absurd cc

-- the text is the view's
pub record IsSpelled (text : List ℕ) (v : ViewParts) : Type 0 where
  pub text_is : text ≡ text_of_view v
  pub within : IsWithinLimits v

spelled : (text : List ℕ) (v : ViewParts) → spells text v ≡ true → IsSpelled text v
spelled text v e =
    let parts = and_parts (bytes_eq (text_of_view v) text) _ e in
    record {
      text_is = sym ((bytes_eq-Decides (text_of_view v) text).0 parts.0);
      within = none_past (field_past_limit v) parts.1;
    }

-- a text that has a view is that view's
pub text_of_its_view : (text : List ℕ) → IfSome (view_of text) (IsSpelled text)
unfolding view_of
text_of_its_view text = go (view_of_numbers (numbers_in text))
  where
    decided : (v : ViewParts) (b : Bool) → spells text v ≡ b
        → IfSome (if b then Some v else None) (IsSpelled text)
    decided v false same = tt
    decided v true same = spelled text v same

    go : (view : Option ViewParts) → IfSome (if_spelled text view) (IsSpelled text)
    go None = tt
    go (Some v) = decided v (spells text v) refl

-- a text that spells no view has none
pub no_view : (text : List ℕ)
    → ((v : ViewParts) → IsWithinLimits v → text ≡ text_of_view v → ⊥) → view_of text ≡ None
no_view text none = go (view_of text) (text_of_its_view text)
  where
    go : (view : Option ViewParts) → IfSome view (IsSpelled text) → view ≡ None
    go None is = refl
    go (Some v) is = absurd (none v is.within is.text_is)
