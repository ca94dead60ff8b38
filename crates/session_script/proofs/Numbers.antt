-- Printed numbers hold no mark but a minus sign.
use Rattle.std.proofs.Common.{◌≢◌, ℕ, suc, ◌<◌, ◌^◌, ℤ, pos, negsuc, arith, w64}
use Rattle.std.proofs.lemmas.Fmt.{digits_decimal}
use Rattle.std.proofs.lemmas.List.Elements.{All-cons}
use Rattle.std.proofs.lemmas.Str.Parse.{IsNumeralModel, not_in_digits, numerals_by_value}
use Rattle.std.proofs.lemmas.Str.Parse.{tells_digits}
use Rattle.std.specs.Fmt.{decimal, signed_decimal}
use Rattle.std.specs.Int.{IsInRange}
use Rattle.std.specs.Prelude.{FitsSigned}
use Rattle.std.specs.Str.Parse.{AllDigits, digits_value}
use Rattle.session_script.specs.Ascii.{IsWithout, colon, comma, slash}
use Rattle.session_script.proofs.Parts.{without}

own : IsNumeralModel (AllDigits 10) (digits_value 10)
own = numerals_by_value (AllDigits 10) tells_digits

decimal_without : (mark n : ℕ) → n < 2 ^ 64 → ¬ (IsInRange 48 57 mark) → IsWithout mark (decimal n)
decimal_without mark n small other =
    without mark (decimal n) (not_in_digits own (decimal n) mark (digits_decimal own n small) other)

signed_without : (mark : ℕ) (z : ℤ) → FitsSigned w64 z → ¬ (IsInRange 48 57 mark) → 45 ≢ mark
    → IsWithout mark (signed_decimal z)
signed_without mark (pos n) fits other minus = let small : n < 2 ^ 63 = fits.sfits in
    decimal_without mark n (omega arith) other
signed_without mark (negsuc n) fits other minus =
    let small : n < 2 ^ 63 = fits.sfits in
    All-cons (λ byte. byte ≢ mark) 45 (decimal (suc n)) minus
    (decimal_without mark (suc n) (omega arith) other)

-- ---- the marks of a view

pub signed_without_comma : (z : ℤ) → FitsSigned w64 z → IsWithout comma (signed_decimal z)
signed_without_comma z fits = signed_without comma z fits (λ h. omega (arith, h))
    (λ h. omega (arith, h))

pub signed_without_colon : (z : ℤ) → FitsSigned w64 z → IsWithout colon (signed_decimal z)
signed_without_colon z fits = signed_without colon z fits (λ h. omega (arith, h))
    (λ h. omega (arith, h))

pub decimal_without_colon : (n : ℕ) → n < 2 ^ 64 → IsWithout colon (decimal n)
decimal_without_colon n small = decimal_without colon n small (λ h. omega (arith, h))

pub decimal_without_slash : (n : ℕ) → n < 2 ^ 64 → IsWithout slash (decimal n)
decimal_without_slash n small = decimal_without slash n small (λ h. omega (arith, h))
