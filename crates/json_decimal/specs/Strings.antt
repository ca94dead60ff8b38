-- Reading a string from behind its opening quotation mark (RFC 8259, section 7).
use Rattle.std.specs.Prelude.{◌≡◌, ◌<◌, ℕ, zero, suc, ◌+◌, ◌-◌, ◌*◌, List, [], ◌∷◌, ◌++◌, ◌==◌, ◌||◌, ◌&&◌, nat_le, nat_lt, length, take, drop, Bool, not, if◌then◌else◌, Option, Some, None, codes, encode_utf8, IsUtf8}
use Rattle.std.specs.Str.{is_utf8, bytes_eq}
use Rattle.json_decimal.specs.Ascii.{space, quotation_mark, reverse_solidus, lower_u}
use Rattle.json_decimal.specs.Characters.{hex_digit, short_escape}
use Rattle.json_decimal.specs.Scan.{◌>>=◌, Reader, after}

-- the number of n hexadecimal digits behind those of `high`
abbrev pub hex_behind : ℕ → ℕ → Reader ℕ
hex_behind zero high bs = Some (high, bs)
hex_behind (suc n) high [] = None
hex_behind (suc n) high (b ∷ bs) = hex_digit b >>= λ d. hex_behind n (16 * high + d) bs

-- four hexadecimal digits
abbrev pub unit_at : Reader ℕ
unit_at bs = hex_behind 4 0 bs

-- the first of the two units in UTF-16 that make a character (Unicode, section 3.9)
abbrev pub is_high : ℕ → Bool
is_high u = nat_le 0xD800 u && nat_lt u 0xDC00

-- the second of them
abbrev pub is_low : ℕ → Bool
is_low u = nat_le 0xDC00 u && nat_lt u 0xE000

-- the character that they make
abbrev pub combined : ℕ → ℕ → ℕ
combined high low = 0x10000 + (high - 0xD800) * 0x400 + (low - 0xDC00)

-- the second unit of a pair, behind the first
unfoldable pub low_at : ℕ → Reader ℕ
low_at high bs =
    after (codes "\\u") bs >>= λ bs. unit_at bs
    >>= λ low. if is_low low.0 then Some (combined high low.0, low.1) else None

-- one unit that is a character, or the two that make one
unfoldable pub units_at : Reader ℕ
units_at bs =
    unit_at bs >>= λ u. if is_high u.0 then low_at u.0 u.1 else if is_low u.0 then None else Some u

-- what stands behind a reverse solidus
unfoldable pub escape_at : Reader ℕ
escape_at [] = None
escape_at (e ∷ bs) = if e == lower_u then units_at bs else short_escape e >>= λ c. Some (c, bs)

-- a byte that stands for itself
abbrev pub is_plain : ℕ → Bool
is_plain b = nat_le space b && not (b == quotation_mark) && not (b == reverse_solidus)

-- a byte that does not stand for itself, or is not in ASCII
abbrev pub is_stop : ℕ → Bool
is_stop b = nat_lt b space || nat_le 0x80 b || b == quotation_mark || b == reverse_solidus

-- how many bytes stand for themselves, up to the first that does not
abbrev pub plain_len : List ℕ → ℕ
plain_len [] = 0
plain_len (b ∷ bs) = if is_plain b then suc (plain_len bs) else 0

-- a text, and what is read behind it
abbrev pub with_text : List ℕ → Option (List ℕ × List ℕ) → Option (List ℕ × List ℕ)
with_text text read = read >>= λ x. Some (text ++ x.0, x.1)

-- what ends a run of bytes that stand for themselves, and the bytes behind it
pub data RunEnd : Type 0 where
  quote : List ℕ → RunEnd
  escape : List ℕ → RunEnd
  neither : RunEnd

abbrev pub run_end : List ℕ → RunEnd
run_end [] = neither
run_end (b ∷ bs) =
    if b == quotation_mark then quote bs else if b == reverse_solidus then escape bs else neither

-- a run that the closing quotation mark ends, or an escape and more
abbrev pub behind_run : Reader (List ℕ) → List ℕ → RunEnd → Option (List ℕ × List ℕ)
behind_run more run (quote bs) = Some (run, bs)
behind_run more run (escape bs) =
    escape_at bs >>= λ x. with_text (run ++ encode_utf8 x.0) (more x.1)
behind_run more run neither = None

-- whole characters that stand for themselves, and what is behind them
abbrev pub run_by : Reader (List ℕ) → Reader (List ℕ)
run_by more bs =
    if is_utf8 (take (plain_len bs) bs)
    then behind_run more (take (plain_len bs) bs) (run_end (drop (plain_len bs) bs))
    else None

-- a string of n runs at most
abbrev pub runs_within : ℕ → Reader (List ℕ)
runs_within zero bs = None
runs_within (suc n) bs = run_by (runs_within n) bs

-- a string: each of its runs but the last is followed by a byte at least
unfoldable pub string_at : Reader (List ℕ)
string_at bs = runs_within (length bs) bs

-- a string of this many bytes, all of which are in ASCII and stand for themselves
pub record IsPlainAscii (bs : List ℕ) (len : ℕ) : Type 0 where
  pub within : len < length bs
  pub text : IsUtf8 (take len bs)
  pub read : string_at bs ≡ Some (take len bs, drop (len + 1) bs)

-- the bytes behind a string
abbrev pub behind_string : List ℕ → Option (List ℕ)
behind_string bs = string_at bs >>= λ x. Some x.1

-- the string here stands for itself, and `rest` is what is behind its closing quotation mark
abbrev pub IsPlain : List ℕ → List ℕ → Type 0
IsPlain bs rest = string_at bs ≡ Some (take (length bs - (length rest + 1)) bs, rest)

-- whether the string here, where there is one, has this text
abbrev pub TellsText : List ℕ → List ℕ → Bool → Type 0
TellsText bs text is = (x : List ℕ × List ℕ) → string_at bs ≡ Some x → is ≡ bytes_eq x.0 text
