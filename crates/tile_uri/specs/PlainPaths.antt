-- Plain paths: relative-URL strings (URL Standard, section 4.3) that the parse puts behind the last
-- slash of its base as they are.
use Rattle.std.specs.Prelude.{ℕ, Bool, true, not, ◌&&◌, ◌||◌, ◌==◌, nat_lt, List, [], ◌∷◌, length, if◌then◌else◌}
use Rattle.std.specs.Char.{is_ascii_alphanumeric}
use Rattle.url.specs.Ascii.{slash, dot, hyphen}
use Rattle.tile_uri.specs.declared.plain_path.TheConstants.{INSIDE_SEGMENT, BEHIND_SLASH, REFUSED}

-- `b'_'`
abbrev pub underscore : ℕ
underscore = 95

-- a letter, a digit, or one of `-_./`
abbrev pub is_plain_byte : ℕ → Bool
is_plain_byte b =
    is_ascii_alphanumeric b || b == hyphen || b == underscore || b == dot || b == slash

-- plain bytes, where no segment begins with a dot and none but the last is empty; `before` is the
-- byte before the text
abbrev pub is_plain_behind : ℕ → List ℕ → Bool
is_plain_behind before [] = true
is_plain_behind before (b ∷ text) =
    is_plain_byte b && not (before == slash && (b == dot || b == slash)) && is_plain_behind b text

-- a plain text that is not empty
abbrev pub is_plain_path : List ℕ → Bool
is_plain_path text = nat_lt 0 (length text) && is_plain_behind slash text

-- the state behind a byte
abbrev pub step : ℕ → ℕ → ℕ
step state b =
    if state == REFUSED || not (is_plain_byte b)
    || (state == BEHIND_SLASH && (b == dot || b == slash)) then REFUSED
    else (if b == slash then BEHIND_SLASH else INSIDE_SEGMENT)
