-- The text of a URL holds no C0 control, and an address is visible.
use Rattle.std.proofs.Common.{◌≡◌, ℕ, ◌≤◌, Bool, true, false, ◌||◌, ◌==◌, ◌<◌, ltb, leb, drop, All, List, [], ◌∷◌, length, Ok, Err, refl, get_or, sym, ◌∙◌, subst, arith, lit≤, ⊎_elim}
use Rattle.std.specs.List.{concat, list_any}
use Rattle.std.proofs.lemmas.Bool.{and_parts, cases_Bool, cond-true, cond-false, lt-ltb, not-true}
use Rattle.std.proofs.lemmas.Bool.Decides.{nat_tests}
use Rattle.std.proofs.lemmas.List.Elements.{All-append, All-head, All-tail, All-weaker}
use Rattle.url.specs.declared.slicing.Position.TheVariants.{AfterPath, AfterQuery}
use Rattle.url.specs.declared.sets.TheConstants.{FRAGMENT}
use Rattle.url.specs.Input.{is_c0_control_or_space}
use Rattle.url.specs.Parts.{Parts, pieces, serialize, text_before, IsValid}
use Rattle.url.proofs.InputLemmas.{Passes}
use Rattle.url.proofs.HostLemmas.{none_from_list_any}
use Rattle.url.proofs.SetLemmas.{passes_from_kept}
use Rattle.url.proofs.TextLemmas.{All-concat, All_one, All_part, is_body_byte, body_bytes}
use Rattle.url.proofs.RoundTrip.{fragment_text, All-query_text}
use Rattle.tile_uri.specs.declared.address.TheConstants.{ADDRESS_LIMIT}
use Rattle.tile_uri.specs.declared.error.UriError.TheVariants.{NotAnAddress, TooLong}
use Rattle.tile_uri.specs.Addresses.{checked, has_control_or_space, is_address, IsVisible}

abbrev IsPrintable : ℕ → Type 0
IsPrintable b = 32 ≤ b

all_printable : (url : Parts) → IsValid url → All IsPrintable (serialize url)
all_printable url valid =
    let P = IsPrintable in
    let body =
    All-weaker (Passes is_body_byte) P (λ b passes. grind (arith, nat_tests))
    (text_before url AfterPath) (body_bytes url valid) in
    let query = All-query_text P url valid body (lit≤ tt) (λ b passes. grind (arith, nat_tests)) in
    let part =
    All_part P FRAGMENT url.fragment
    (λ b h. let above = passes_from_kept FRAGMENT (ltb 32) refl b h in grind (arith, nat_tests))
    valid.fragment in
    let tail = All-concat P (drop 13 (pieces url)) (All_one P _ 35 (lit≤ tt), (part, tt)) in
    subst (All P) (sym (fragment_text url))
    (All-append P (text_before url AfterQuery) (concat (drop 13 (pieces url))) query tail)

abbrev pub has_space : List ℕ → Bool
has_space text = list_any (λ b. b == 32) text

same_test : (b : ℕ) → 32 ≤ b → is_c0_control_or_space b ≡ (b == 32)
same_test b above =
    ⊎_elim
    (λ (space : (b == 32) ≡ true).
    let within : leb b 32 ≡ true = grind (arith, nat_tests) in
    within ∙ sym space)
    (λ (other : (b == 32) ≡ false).
    let past : leb b 32 ≡ false = grind (arith, nat_tests) in
    past ∙ sym other)
    (cases_Bool (b == 32))

-- of the bytes that an address may not hold, the text of a URL holds spaces alone
pub has_control_or_space-serialize : (url : Parts) → IsValid url
    → has_control_or_space (serialize url) ≡ has_space (serialize url)
has_control_or_space-serialize url valid =
    same (serialize url) (all_printable url valid)
  where
    same : (text : List ℕ) → All IsPrintable text → has_control_or_space text ≡ has_space text
    same [] printable = refl
    same (b ∷ text) printable =
        let here = same_test b (All-head IsPrintable b text printable) in
        let later = same text (All-tail IsPrintable b text printable) in
        λ i. here i || later i

-- an address is visible
pub visible : (text : List ℕ) → is_address text ≡ true → All IsVisible text
visible text address =
    let none = and_parts _ _ address in
    let each = none_from_list_any is_c0_control_or_space text (not-true _ none.0) in
    λ k d inside. let other : leb (get_or text k d) 32 ≡ false = each k d inside in
    grind (arith, nat_tests)

-- ---- the check of a URL's text

pub checked_space : (url : Parts) → IsValid url → has_space (serialize url) ≡ true
    → checked (serialize url) ≡ Err NotAnAddress
checked_space url valid some = cond-true _ _ _ (has_control_or_space-serialize url valid ∙ some)

pub checked_long : (url : Parts) → IsValid url → has_space (serialize url) ≡ false
    → ADDRESS_LIMIT < length (serialize url) → checked (serialize url) ≡ Err TooLong
checked_long url valid none long =
    cond-false _ _ _ (has_control_or_space-serialize url valid ∙ none)
    ∙ cond-true _ _ _ (lt-ltb ADDRESS_LIMIT (length (serialize url)) long)

pub checked_short : (url : Parts) → IsValid url → has_space (serialize url) ≡ false
    → length (serialize url) ≤ ADDRESS_LIMIT → checked (serialize url) ≡ Ok tt
checked_short url valid none short =
    let fits : ltb ADDRESS_LIMIT (length (serialize url)) ≡ false = grind (arith, nat_tests) in
    cond-false _ _ _ (has_control_or_space-serialize url valid ∙ none) ∙ cond-false _ _ _ fits
