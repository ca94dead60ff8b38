-- The check of a parsed URL decides whether its text is an address.
use Rattle.std.proofs.Common.{◌≡◌, ◌≤◌, ℕ, List, Bool, true, false, not, ◌&&◌, if◌then◌else◌, Some, None, Ok, Err, refl, sym, ap, ◌∙◌, inr, ⊎_elim, length, take, drop, length-append, arith, ltb}
use Rattle.std.specs.Prelude.{Result}
use Rattle.std.proofs.lemmas.Bool.{cases_Bool, and_from, or_parts}
use Rattle.std.proofs.lemmas.Bool.Decides.{nat_tests}
use Rattle.std.proofs.lemmas.Slice.Eq.{bytes_eq-Decides}
use Rattle.std.proofs.lemmas.List.{take-append-drop}
use Rattle.std.proofs.lemmas.List.Folds.{list_any-append}
use Rattle.url.specs.Input.{is_c0_control_or_space}
use Rattle.url.specs.Parts.{Parts, serialize, IsValid}
use Rattle.url.specs.Canonical.{IsCanonical}
use Rattle.url.specs.Parser.{and_then, parse_url}
use Rattle.url.proofs.Theorems.{parse_url-serialize}
use Rattle.tile_uri.specs.declared.address.TheConstants.{ADDRESS_LIMIT}
use Rattle.tile_uri.specs.declared.error.UriError.{UriError}
use Rattle.tile_uri.specs.declared.error.UriError.TheVariants.{NotAnAddress, TooLong}
use Rattle.tile_uri.specs.Addresses.{Answers, IsAddress, is_text_of, has_control_or_space, address_in, checked, join}

-- a URL's own text
pub is_text : (url : Parts) (text : List ℕ) → serialize url ≡ text → is_text_of text (Ok url) ≡ true
is_text url text is = (bytes_eq-Decides (serialize url) text).1 is

-- the text of a URL, where the check passes, or the cause that it gives
abbrev pub decided : List ℕ → Result (Unit {0}) UriError → Result (List ℕ) UriError
decided text (Ok u) = Ok text
decided text (Err e) = Err e

decides : (text : List ℕ) (same : Bool) → same ≡ true
    → (if not (not (has_control_or_space text) && same) then Err NotAnAddress
    else (if ltb ADDRESS_LIMIT (length text) then Err TooLong else Ok text))
    ≡ decided text (checked text)
decides text same is =
    ⊎_elim
    (λ (some : has_control_or_space text ≡ true). rw some refl)
    (λ (none : has_control_or_space text ≡ false).
    ⊎_elim
    (λ (long : ltb ADDRESS_LIMIT (length text) ≡ true). rw (none, is, long) refl)
    (λ (short : ltb ADDRESS_LIMIT (length text) ≡ false). rw (none, is, short) refl)
    (cases_Bool (ltb ADDRESS_LIMIT (length text))))
    (cases_Bool (has_control_or_space text))

-- of a URL that its text is parsed to
pub address_checked : (url : Parts) → parse_url None (serialize url) ≡ Ok url
    → address_in (Ok url) ≡ decided (serialize url) (checked (serialize url))
address_checked url parsed =
    decides (serialize url) (is_text_of (serialize url) (parse_url None (serialize url)))
    (ap (is_text_of (serialize url)) parsed ∙ is_text url (serialize url) refl)

pub checked_ok : (text : List ℕ) → checked text ≡ Ok tt
    → (has_control_or_space text ≡ false) × (length text ≤ ADDRESS_LIMIT)
checked_ok text ok =
    ⊎_elim
    (λ (some : has_control_or_space text ≡ true).
    let bad : Err NotAnAddress ≡ Ok tt = rw some at ok in
    cc)
    (λ (none : has_control_or_space text ≡ false).
    ⊎_elim
    (λ (long : ltb ADDRESS_LIMIT (length text) ≡ true).
    let bad : Err TooLong ≡ Ok tt = rw (none, long) at ok in
    cc)
    (λ (short : ltb ADDRESS_LIMIT (length text) ≡ false). (none, grind (arith, nat_tests)))
    (cases_Bool (ltb ADDRESS_LIMIT (length text))))
    (cases_Bool (has_control_or_space text))

pub checked_address : (url : Parts) → parse_url None (serialize url) ≡ Ok url
    → checked (serialize url) ≡ Ok tt → IsAddress (serialize url)
checked_address url parsed ok =
    let both = checked_ok (serialize url) ok in
    record {
      address = and_from _ _ (ap not both.0)
          (ap (is_text_of (serialize url)) parsed ∙ is_text url (serialize url) refl);
      short = both.1;
    }

-- below a base that the parser could have written, only the written text is parsed
pub join_parsed : (base : Parts) (text : List ℕ) → IsValid base → IsCanonical base
    → join (serialize base) text ≡ address_in (parse_url (Some base) text)
join_parsed base text valid canonical =
    ap (λ r. address_in (and_then r (λ url. parse_url (Some url) text)))
    (parse_url-serialize base None valid canonical)

-- an answer that leaves nothing open
pub answers : {T : Type 0} (result expected : Result T UriError) → result ≡ expected
    → Answers result expected
answers (Ok x) expected is = sym is
answers (Err e) expected is = inr (sym is)

-- ---- a front of an address

pub clean_front : (n : ℕ) (text : List ℕ) → has_control_or_space text ≡ false
    → has_control_or_space (take n text) ≡ false
clean_front n text clean =
    let parts =
    sym (list_any-append is_c0_control_or_space (take n text) (drop n text))
    ∙ ap has_control_or_space (take-append-drop n text) in
    (or_parts _ _ (parts ∙ clean)).0

pub short_front : (n : ℕ) (front text : List ℕ) → front ≡ take n text → length text ≤ ADDRESS_LIMIT
    → length front ≤ ADDRESS_LIMIT
short_front n front text is short =
    let whole = ap length (take-append-drop n text) in
    let sum = length-append (take n text) (drop n text) in
    omega (arith, ap length is, whole, sum, short)
