-- The bytes of a number's text, by name (RFC 8259, section 6).
use Rattle.std.specs.Prelude.{ℕ}

-- '0', from which the digits count up to '9'
abbrev pub digit_zero : ℕ
digit_zero = 0x30

-- '-'
abbrev pub minus_sign : ℕ
minus_sign = 0x2d

-- '+'
abbrev pub plus_sign : ℕ
plus_sign = 0x2b

-- '.'
abbrev pub decimal_point : ℕ
decimal_point = 0x2e

-- 'e'
abbrev pub small_e : ℕ
small_e = 0x65

-- 'E'
abbrev pub capital_e : ℕ
capital_e = 0x45
