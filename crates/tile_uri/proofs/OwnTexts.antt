-- An address stands for its own text.
use Rattle.std.specs.Prelude.{if◌then◌else◌, not}
use Rattle.std.proofs.Common.{◌≡◌, ◌≤◌, ℕ, List, true, Ok, Err, None, sym, ap, ◌∙◌, subst, length, arith}
use Rattle.std.proofs.lemmas.Bool.{and_parts}
use Rattle.std.proofs.lemmas.Bool.Decides.{nat_tests}
use Rattle.std.proofs.lemmas.Slice.Eq.{bytes_eq-Decides}
use Rattle.url.specs.Parts.{Parts, serialize}
use Rattle.url.specs.Parser.{Parsed, parse_url}
use Rattle.tile_uri.specs.declared.address.TheConstants.{ADDRESS_LIMIT}
use Rattle.tile_uri.specs.declared.error.UriError.TheVariants.{NotAnAddress}
use Rattle.tile_uri.specs.Addresses.{IsAddress, address_in, address_of, has_control_or_space, is_address, is_text_of, within_limit}

short_is_within : (text : List ℕ) → length text ≤ ADDRESS_LIMIT → within_limit text ≡ Ok text
short_is_within text short = grind (arith, nat_tests)

-- where the parse gave a URL of this text, the text is what is answered
from_own : (text : List ℕ) → is_address text ≡ true → length text ≤ ADDRESS_LIMIT
    → (parsed : Parsed Parts) → is_text_of text parsed ≡ true → address_in parsed ≡ Ok text
from_own text address short (Ok url) same =
    let is : serialize url ≡ text = (bytes_eq-Decides (serialize url) text).0 same in
    subst (λ t. (if not (is_address t) then Err NotAnAddress else within_limit t) ≡ Ok text)
    (sym is)
    (ap (λ b. if not b then Err NotAnAddress else within_limit text) address
    ∙ short_is_within text short)
from_own text address short (Err e) same = cc

pub own_text : (text : List ℕ) → IsAddress text → address_of text ≡ Ok text
own_text text a =
    from_own text a.address a.short (parse_url None text)
    (and_parts (not (has_control_or_space text)) (is_text_of text (parse_url None text))
    a.address).1
