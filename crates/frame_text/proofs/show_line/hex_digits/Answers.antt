use Rattle.std.specs.Prelude.{◌<◌, ℕ, All, IsTrue, nat_lt, refl}
use Rattle.std.proofs.lemmas.Bool.{ltb-true}
use Rattle.std.proofs.lemmas.List.Elements.{All-weaker}
use Rattle.std.proofs.lemmas.List.Sums.{AllPass-from_list_all}
use Rattle.std.proofs.lemmas.Str.{IsUtf8-from_ascii}
use Rattle.std.proofs.lemmas.Str.Ascii.{IsAscii-from_all}
use Rattle.hex.specs.Hex.{lower_digits}
use Rattle.hex.proofs.HexLemmas.{IsAscii-encode_with}
use Rattle.frame_text.proofs.show_line.hex_digits.Goals as goal

all_below : All (λ (digit : ℕ). digit < 128) lower_digits
all_below =
    All-weaker (λ digit. IsTrue (nat_lt digit 128)) (λ digit. digit < 128)
    (λ digit. ltb-true digit 128) lower_digits
    (AllPass-from_list_all (λ digit. nat_lt digit 128) lower_digits refl)

-- hexadecimal digits are ASCII
pub from_utf8_unchecked-requires : goal.from_utf8_unchecked-requires
from_utf8_unchecked-requires c =
    let ascii = IsAscii-from_all lower_digits all_below in
    rw c.in-Ok.ensures.written
    (IsUtf8-from_ascii _ (IsAscii-encode_with lower_digits c.args.digest.now ascii))
