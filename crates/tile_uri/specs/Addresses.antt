-- Addresses: the texts of URLs, and what a text stands for alone and below a base. The sections are
-- those of the URL Standard, https://url.spec.whatwg.org.
use Rattle.std.specs.Prelude.{◌≡◌, ◌⊎◌, ◌≤◌, ◌<◌, ◌-◌, ℕ, Bool, true, false, not, ◌&&◌, nat_lt, List, length, drop, codes, bytes_eq, None, Some, Result, Ok, Err, MatchResult, if◌then◌else◌}
use Rattle.std.specs.List.{list_any}
use Rattle.std.specs.Str.{str_eq_ignore_ascii_case}
use Rattle.url.specs.Ascii.{space}
use Rattle.url.specs.Input.{is_c0_control_or_space}
use Rattle.url.specs.Parts.{Parts, serialize}
use Rattle.url.specs.Parser.{Parsed, and_then, parse_url}
use Rattle.tile_uri.specs.declared.address.TheConstants.{ADDRESS_LIMIT}
use Rattle.tile_uri.specs.declared.error.UriError.{UriError}
use Rattle.tile_uri.specs.declared.error.UriError.TheVariants.{NotAnAddress, TooLong, OutOfMemory}

-- the parse gave a URL of this text (section 4.5, URL serializing)
abbrev pub is_text_of : List ℕ → Parsed Parts → Bool
is_text_of text (Ok url) = bytes_eq (serialize url) text
is_text_of text (Err e) = false

-- some byte is a C0 control or a space, U+0000 to U+0020 (section 4.4, the bytes that are trimmed)
abbrev pub has_control_or_space : List ℕ → Bool
has_control_or_space text = list_any is_c0_control_or_space text

-- the text is an address: it holds no C0 control and no space, and is parsed to a URL of this very
-- text
abbrev pub is_address : List ℕ → Bool
is_address text = not (has_control_or_space text) && is_text_of text (parse_url None text)

-- the text, where it is within the limit
abbrev pub within_limit : List ℕ → Result (List ℕ) UriError
within_limit text = if nat_lt ADDRESS_LIMIT (length text) then Err TooLong else Ok text

-- the text of what a parse gave, where it is an address within the limit, or the first cause why
-- not
abbrev pub address_in : Parsed Parts → Result (List ℕ) UriError
address_in (Err e) = Err NotAnAddress
address_in (Ok url) =
    if not (is_address (serialize url)) then Err NotAnAddress else within_limit (serialize url)

-- the address that a text stands for alone (section 4.4, URL parsing)
abbrev pub address_of : List ℕ → Result (List ℕ) UriError
address_of text = address_in (parse_url None text)

-- the address that a text stands for below the address `base` (section 4.4, URL parsing with a base
-- URL)
abbrev pub join : List ℕ → List ℕ → Result (List ℕ) UriError
join base text = address_in (and_then (parse_url None base) (λ url. parse_url (Some url) text))

-- the answer is the expected one, unless memory ran out
abbrev pub Answers : {T : Type 0} → Result T UriError → Result T UriError → Type 0
Answers result expected =
    MatchResult result (λ x. expected ≡ Ok x) (λ e. (e ≡ OutOfMemory) ⊎ (expected ≡ Err e))

-- no C0 control, such as a line feed, and no space
abbrev pub IsVisible : ℕ → Type 0
IsVisible b = space < b

-- what holds of each address
pub record IsAddress (text : List ℕ) : Type 0 where
  pub address : is_address text ≡ true
  pub short : length text ≤ ADDRESS_LIMIT

-- whether the text of a parsed URL is an address, or the first cause why not
abbrev pub checked : List ℕ → Result (Unit {0}) UriError
checked text =
    if has_control_or_space text then Err NotAnAddress
    else (if nat_lt ADDRESS_LIMIT (length text) then Err TooLong else Ok tt)

-- ---- external tilesets

-- the last five bytes are `.json`, in letters of any case
abbrev pub ends_in_json : List ℕ → Bool
ends_in_json path = str_eq_ignore_ascii_case (drop (length path - 5) path) (codes ".json")

-- the parse gave a URL whose path ends so (section 4.1, a URL's path)
abbrev pub has_json_path : Parsed Parts → Bool
has_json_path (Ok url) = ends_in_json url.path
has_json_path (Err e) = false

-- the address names an external tileset (OGC 22-025r4, "External tilesets")
abbrev pub is_external : List ℕ → Bool
is_external text = has_json_path (parse_url None text)

-- an address that ends with its path: it has neither a query nor a fragment
pub record IsPathAddress (text : List ℕ) : Type 0 where
  pub address : is_address text ≡ true
  pub end : is_external text ≡ ends_in_json text
