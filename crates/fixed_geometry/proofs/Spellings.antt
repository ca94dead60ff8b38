-- What `fixed` finds in a text that is spelled as a number: a sign, a whole part, a fraction and an
-- exponent.
use Rattle.std.proofs.Common.{◌≡◌, ℕ, zero, suc, ◌+◌, ◌*◌, ◌^◌, Bool, true, false, cond, not, ◌==◌}
use Rattle.std.proofs.Common.{◌&&◌, ◌||◌, List, [], ◌∷◌, ◌++◌, sym, refl, ap, ◌∙◌, arith, length}
use Rattle.std.proofs.Common.{take, drop, append-nil, add-zero, ◌-◌, ◌<◌, ◌≤◌, Option, Some, None}
use Rattle.std.proofs.Common.{append_assoc, length-append, subst, get_or, take_all}
use Rattle.std.proofs.Math.Seq.{take-append_seam, drop-append_seam}
use Rattle.std.proofs.lemmas.Bool.Decides.{nat_tests}
use Rattle.std.proofs.lemmas.List.Folds.{list_any-append, list_all-append}
use Rattle.std.proofs.lemmas.List.Sums.{fold_more, sum_by-cons}
use Rattle.std.proofs.lemmas.List.{take_more, length-take-le}
use Rattle.std.specs.List.{position_or_len, prefix_len, list_all, list_any}
use Rattle.std.specs.Char.{is_ascii_digit}
use Rattle.fixed_geometry.specs.Ascii.{digit_zero, minus_sign, decimal_point}
use Rattle.fixed_geometry.specs.Quotient.{half_size}
use Rattle.fixed_geometry.specs.Spelling.{sign_text}
use Rattle.fixed_geometry.proofs.Decimals.{digit_most, digit_below, next_digit_yes, next_digit_no}
use Rattle.fixed_geometry.specs.Decimal.{is_point, is_exponent_mark, has_minus, digits_value}
use Rattle.fixed_geometry.specs.Decimal.{digit_count, mantissa, exponent, from_first}
use Rattle.fixed_geometry.specs.Decimal.{fraction_places, fixed_size, next_digit}

abbrev pub AreDigits : List ℕ → Type 0
AreDigits t = list_all is_ascii_digit t ≡ true

-- nothing, or a point with digits behind it
abbrev pub IsFraction : List ℕ → Type 0
IsFraction [] = Unit {0}
IsFraction (b ∷ t) = (b ≡ decimal_point) × AreDigits t

-- nothing, or the first byte passes
abbrev pub Starts : (ℕ → Bool) → List ℕ → Type 0
Starts p [] = Unit {0}
Starts p (b ∷ t) = p b ≡ true

pub both : (a b : Bool) → (a && b) ≡ true → (a ≡ true) × (b ≡ true)
both true true h = (refl, refl)
both true false h = absurd (cc)
both false b h = absurd (cc)

neither : (a b : Bool) → (a || b) ≡ false → (a ≡ false) × (b ≡ false)
neither false false h = (refl, refl)
neither false true h = absurd (cc)
neither true b h = absurd (cc)

-- ---- digits are none of the other bytes

point_apart : (b : ℕ) → is_ascii_digit b ≡ true → is_point b ≡ false
point_apart b h = grind (arith, nat_tests)

mark_apart : (b : ℕ) → is_ascii_digit b ≡ true → is_exponent_mark b ≡ false
mark_apart b h = grind (arith, nat_tests)

pub minus_apart : (b : ℕ) → is_ascii_digit b ≡ true → (b == minus_sign) ≡ false
minus_apart b h = grind (arith, nat_tests)

pub none_of_digits : (p : ℕ → Bool) → ((b : ℕ) → is_ascii_digit b ≡ true → p b ≡ false)
    → (t : List ℕ) → AreDigits t → list_any p t ≡ false
none_of_digits p apart [] h = refl
none_of_digits p apart (b ∷ t) h =
    let parts = both (is_ascii_digit b) (list_all is_ascii_digit t) h in
    ap (λ q. q || list_any p t) (apart b parts.0) ∙ none_of_digits p apart t parts.1

none_of_fraction : (p : ℕ → Bool) → ((b : ℕ) → is_ascii_digit b ≡ true → p b ≡ false)
    → p decimal_point ≡ false → (f : List ℕ) → IsFraction f → list_any p f ≡ false
none_of_fraction p apart n [] h = refl
none_of_fraction p apart n (b ∷ t) h =
    ap (λ q. q || list_any p t) (ap p h.0 ∙ n) ∙ none_of_digits p apart t h.1

pub digit_count_all : (t : List ℕ) → AreDigits t → digit_count t ≡ length t
digit_count_all [] h = refl
digit_count_all (b ∷ t) h =
    let parts = both (is_ascii_digit b) (list_all is_ascii_digit t) h in
    let rest : digit_count t ≡ length t = digit_count_all t parts.1 in
    let first : ◌≡◌ {A = ℕ} (cond (is_ascii_digit b) 1 0) 1 = ap (λ q. cond q 1 0) parts.0 in
    sum_by-cons (λ x. cond (is_ascii_digit x) 1 0) b t ∙ omega (arith, first, rest)

-- ---- where the parts of a text begin

place : (p : ℕ → Bool) (m x : List ℕ) → list_any p m ≡ false → Starts p x
    → position_or_len p (m ++ x) ≡ length m
place p [] [] n s = refl
place p [] (b ∷ x) n s = ap (λ q. cond (not q) (1 + prefix_len (λ y. not (p y)) x) 0) s
place p (b ∷ m) x n s =
    let parts = neither (p b) (list_any p m) n in
    let rest = place p m x parts.1 s in
    let e : 1 + position_or_len p (m ++ x) ≡ suc (length m) = omega (arith, rest) in
    ap (λ q. cond (not q) (1 + prefix_len (λ y. not (p y)) (m ++ x)) 0) parts.0 ∙ e

before_is : (p : ℕ → Bool) (m x : List ℕ) → list_any p m ≡ false → Starts p x
    → take (position_or_len p (m ++ x)) (m ++ x) ≡ m
before_is p m x n s = ap (λ i. take i (m ++ x)) (place p m x n s) ∙ take-append_seam m x

from_is : (p : ℕ → Bool) (m x : List ℕ) → list_any p m ≡ false → Starts p x
    → from_first p (m ++ x) ≡ x
from_is p m x n s = ap (λ i. drop i (m ++ x)) (place p m x n s) ∙ drop-append_seam m x

-- ---- a whole text

none_before : (p : ℕ → Bool) → ((b : ℕ) → is_ascii_digit b ≡ true → p b ≡ false)
    → p minus_sign ≡ false → (negative : Bool) (w : List ℕ) → AreDigits w
    → list_any p (sign_text negative ++ w) ≡ false
none_before p apart n true w h = ap (λ q. q || list_any p w) n ∙ none_of_digits p apart w h
none_before p apart n false w h = none_of_digits p apart w h

sign_joins : (negative : Bool) (w f : List ℕ)
    → sign_text negative ++ (w ++ f) ≡ (sign_text negative ++ w) ++ f
sign_joins true w f = refl
sign_joins false w f = refl

joined_none : (p : ℕ → Bool) (a b : List ℕ) → list_any p a ≡ false → list_any p b ≡ false
    → list_any p (a ++ b) ≡ false
joined_none p a b h g = list_any-append p a b ∙ (ap (λ q. q || list_any p b) h ∙ g)

-- the parts of a text that is spelled as a number, but for its sign
pub record AreParts (w f x : List ℕ) : Type 0 where
  pub whole : AreDigits w
  pub fraction : IsFraction f
  pub exponent : Starts is_exponent_mark x

no_mark : (negative : Bool) (w f x : List ℕ) → AreParts w f x
    → list_any is_exponent_mark (sign_text negative ++ (w ++ f)) ≡ false
no_mark negative w f x h =
    ap (λ t. list_any is_exponent_mark t) (sign_joins negative w f)
    ∙ joined_none is_exponent_mark (sign_text negative ++ w) f
    (none_before is_exponent_mark mark_apart refl negative w h.whole)
    (none_of_fraction is_exponent_mark mark_apart refl f h.fraction)

starts_fraction : (f : List ℕ) → IsFraction f → Starts is_point f
starts_fraction [] h = tt
starts_fraction (b ∷ t) h = ap is_point h.0

mantissa_is : (negative : Bool) (w f x : List ℕ) → AreParts w f x
    → mantissa ((sign_text negative ++ (w ++ f)) ++ x) ≡ sign_text negative ++ (w ++ f)
mantissa_is negative w f x h = before_is is_exponent_mark (sign_text negative ++ (w ++ f)) x
    (no_mark negative w f x h) h.exponent

exponent_is : (negative : Bool) (w f x : List ℕ) → AreParts w f x
    → exponent ((sign_text negative ++ (w ++ f)) ++ x) ≡ x
exponent_is negative w f x h = from_is is_exponent_mark (sign_text negative ++ (w ++ f)) x
    (no_mark negative w f x h) h.exponent

fraction_is : (negative : Bool) (w f x : List ℕ) → AreParts w f x
    → from_first is_point (sign_text negative ++ (w ++ f)) ≡ f
fraction_is negative w f x h =
    ap (λ t. from_first is_point t) (sign_joins negative w f)
    ∙ from_is is_point (sign_text negative ++ w) f
    (none_before is_point point_apart refl negative w h.whole) (starts_fraction f h.fraction)

signed_digits : (negative : Bool) (t : List ℕ)
    → digits_value (sign_text negative ++ t) ≡ digits_value t
signed_digits true t = refl
signed_digits false t = refl

signed_minus : (negative : Bool) (t : List ℕ) → list_any (λ b. b == minus_sign) t ≡ false
    → has_minus (sign_text negative ++ t) ≡ negative
signed_minus true t h = refl
signed_minus false t h = h

-- the sign of a spelled number
pub minus_of_parts : (negative : Bool) (w f x : List ℕ) → AreParts w f x
    → has_minus (mantissa ((sign_text negative ++ (w ++ f)) ++ x)) ≡ negative
minus_of_parts negative w f x h =
    ap has_minus (mantissa_is negative w f x h)
    ∙ signed_minus negative (w ++ f)
    (joined_none (λ b. b == minus_sign) w f
    (none_of_digits (λ b. b == minus_sign) minus_apart w h.whole)
    (none_of_fraction (λ b. b == minus_sign) minus_apart refl f h.fraction))

-- the size of a spelled number
pub size_of_parts : (negative : Bool) (w f x : List ℕ) (k : ℕ) → AreParts w f x
    → fixed_size ((sign_text negative ++ (w ++ f)) ++ x) k
    ≡ half_size (digits_value (w ++ f) * 10 ^ (k + cond (has_minus x) 0 (digits_value x)))
    (10 ^ (digit_count f + cond (has_minus x) (digits_value x) 0))
size_of_parts negative w f x k h =
    let m = sign_text negative ++ (w ++ f) in
    let t = m ++ x in
    let is_m : mantissa t ≡ m = mantissa_is negative w f x h in
    let is_x : exponent t ≡ x = exponent_is negative w f x h in
    let digits : digits_value (mantissa t) ≡ digits_value (w ++ f) =
    ap digits_value is_m ∙ signed_digits negative (w ++ f) in
    let places : fraction_places t ≡ digit_count f =
    ap (λ u. digit_count (from_first is_point u)) is_m
    ∙ ap digit_count (fraction_is negative w f x h) in
    ap (λ n. half_size (n * 10 ^ (k + cond (has_minus (exponent t)) 0 (digits_value (exponent t))))
    (10 ^ (fraction_places t + cond (has_minus (exponent t)) (digits_value (exponent t)) 0)))
    digits
    ∙ (ap (λ n. half_size (digits_value (w ++ f) * 10 ^
    (k + cond (has_minus (exponent t)) 0 (digits_value (exponent t))))
    (10 ^ (n + cond (has_minus (exponent t)) (digits_value (exponent t)) 0))) places
    ∙ ap (λ u. half_size (digits_value (w ++ f) * 10 ^ (k + cond (has_minus u) 0 (digits_value u)))
    (10 ^ (digit_count f + cond (has_minus u) (digits_value u) 0))) is_x)

-- ---- with no exponent

plain_text : (m : List ℕ) → m ++ [] ≡ m
plain_text m = append-nil m

pub plain_minus : (negative : Bool) (w f : List ℕ) → AreDigits w → IsFraction f
    → has_minus (mantissa (sign_text negative ++ (w ++ f))) ≡ negative
plain_minus negative w f h g =
    ap (λ t. has_minus (mantissa t)) (sym (plain_text (sign_text negative ++ (w ++ f))))
    ∙ minus_of_parts negative w f [] (record { whole = h; fraction = g; exponent = tt })

pub plain_size : (negative : Bool) (w f : List ℕ) (k : ℕ) → AreDigits w → IsFraction f
    → fixed_size (sign_text negative ++ (w ++ f)) k
    ≡ half_size (digits_value (w ++ f) * 10 ^ k) (10 ^ digit_count f)
plain_size negative w f k h g =
    ap (λ t. fixed_size t k) (sym (plain_text (sign_text negative ++ (w ++ f))))
    ∙ (size_of_parts negative w f [] k (record { whole = h; fraction = g; exponent = tt })
    ∙ (ap (λ e. half_size (digits_value (w ++ f) * 10 ^ e) (10 ^ (digit_count f + 0))) (add-zero k)
    ∙ ap (λ e. half_size (digits_value (w ++ f) * 10 ^ k) (10 ^ e)) (add-zero (digit_count f))))

-- ---- as the code meets them, byte by byte

-- a point stands in t behind p digits, with digits behind it
pub record IsPointed (t : List ℕ) (p : ℕ) : Type 0 where
  pub whole : List ℕ
  pub digits : List ℕ
  pub same : t ≡ whole ++ decimal_point ∷ digits
  pub are_whole : AreDigits whole
  pub are_digits : AreDigits digits
  pub place : length whole ≡ p

-- what was read of a number: digits, and a point where `point` says so
abbrev pub IsReadTo : List ℕ → Option ℕ → Type 0
IsReadTo t None = AreDigits t
IsReadTo t (Some p) = IsPointed t p

digits_push : (t : List ℕ) (b : ℕ) → AreDigits t → is_ascii_digit b ≡ true → AreDigits (t ++ b ∷ [])
digits_push t b h d = list_all-append is_ascii_digit t (b ∷ [])
    ∙ (ap (λ q. q && (is_ascii_digit b && true)) h ∙ ap (λ q. q && true) d)

pub read_digit : (t : List ℕ) (point : Option ℕ) (b : ℕ) → IsReadTo t point
    → is_ascii_digit b ≡ true → IsReadTo (t ++ b ∷ []) point
read_digit t None b h d = digits_push t b h d
read_digit t (Some p) b h d = record {
  whole = h.whole;
  digits = h.digits ++ b ∷ [];
  same = ap (λ u. u ++ b ∷ []) h.same ∙ append_assoc h.whole (decimal_point ∷ h.digits) (b ∷ []);
  are_whole = h.are_whole;
  are_digits = digits_push h.digits b h.are_digits d;
  place = h.place;
}

pub read_point : (t : List ℕ) (b p : ℕ) → AreDigits t → b ≡ decimal_point → length t ≡ p
    → IsReadTo (t ++ b ∷ []) (Some p)
read_point t b p h e l = record {
  whole = t;
  digits = [];
  same = ap (λ x. t ++ x ∷ []) e;
  are_whole = h;
  are_digits = refl;
  place = l;
}

-- how many digits stand behind the point
abbrev pub fraction_of : List ℕ → Option ℕ → ℕ
fraction_of t None = 0
fraction_of t (Some p) = length t - p - 1

pub read_sign : (negative : Bool) (t : List ℕ) (point : Option ℕ) → IsReadTo t point
    → has_minus (mantissa (sign_text negative ++ t)) ≡ negative
read_sign negative t None h = ap (λ u. has_minus (mantissa (sign_text negative ++ u)))
    (sym (append-nil t)) ∙ plain_minus negative t [] h tt
read_sign negative t (Some p) h =
    ap (λ u. has_minus (mantissa (sign_text negative ++ u))) h.same
    ∙ plain_minus negative h.whole (decimal_point ∷ h.digits) h.are_whole (refl, h.are_digits)

pub read_size : (negative : Bool) (t : List ℕ) (point : Option ℕ) (k : ℕ) → IsReadTo t point
    → fixed_size (sign_text negative ++ t) k
    ≡ half_size (digits_value t * 10 ^ k) (10 ^ fraction_of t point)
read_size negative t None k h =
    ap (λ u. fixed_size (sign_text negative ++ u) k) (sym (append-nil t))
    ∙ (plain_size negative t [] k h tt
    ∙ ap (λ u. half_size (digits_value u * 10 ^ k) (10 ^ 0)) (append-nil t))
read_size negative t (Some p) k h =
    let count : digit_count (decimal_point ∷ h.digits) ≡ length h.digits =
    digit_count_all h.digits h.are_digits in
    let behind : digit_count (decimal_point ∷ h.digits) ≡ length t - p - 1 =
    omega (
      arith,
      count,
      ap length h.same,
      length-append h.whole (decimal_point ∷ h.digits),
      h.place,
    ) in
    ap (λ u. fixed_size (sign_text negative ++ u) k) h.same
    ∙ (plain_size negative h.whole (decimal_point ∷ h.digits) k h.are_whole (refl, h.are_digits)
    ∙ (ap (λ n. half_size (digits_value (h.whole ++ decimal_point ∷ h.digits) * 10 ^ k) (10 ^ n))
    behind
    ∙ ap (λ u. half_size (digits_value u * 10 ^ k) (10 ^ (length t - p - 1))) (sym h.same)))

-- where the point stands among n bytes, if `tail` of them stand from it on
abbrev pub point_of : ℕ → ℕ → Option ℕ
point_of n zero = None
point_of n (suc k) = Some (n - suc k)

point_is : (n i : ℕ) → i < n → point_of n (n - i) ≡ Some i
point_is n i h =
    let e : n - i ≡ suc (n - i - 1) = omega arith in
    let same : n - suc (n - i - 1) ≡ i = omega arith in
    ap (point_of n) e ∙ ap Some same

fraction_is_tail : (t : List ℕ) (tail : ℕ) → tail ≤ length t
    → fraction_of t (point_of (length t) tail) ≡ tail - 1
fraction_is_tail t zero h = refl
fraction_is_tail t (suc k) h = omega arith

-- what the loop over the bytes keeps
pub record IsRead (t : List ℕ) (i value tail : ℕ) : Type 0 where
  pub read : IsReadTo (take i t) (point_of (length t) tail)
  pub is_value : value ≡ digits_value (take i t)
  pub bound : value < 10 ^ i
  pub within : tail ≤ length t

pub more_digit : (t : List ℕ) (i value tail : ℕ) → IsRead t i value tail → i < length t
    → is_ascii_digit (get_or t i 0) ≡ true
    → IsRead t (i + 1) (10 * value + (get_or t i 0 - digit_zero)) tail
more_digit t i value tail h l d =
    let P : List ℕ → Type 0 = λ u. IsReadTo u (point_of (length t) tail) in
    let b = get_or t i 0 in
    let most = digit_most b d in
    record {
      read = subst P (sym (take_more t i 0 l))
          (read_digit (take i t) (point_of (length t) tail) b h.read d);
      is_value =
          ap (λ v. 10 * v + (b - digit_zero)) h.is_value
          ∙ (sym (next_digit_yes (digits_value (take i t)) b d)
          ∙ sym (fold_more next_digit 0 t i 0 l));
      bound = omega (arith, digit_below value i h.bound);
      within = h.within;
    }

pub more_point : (t : List ℕ) (i value tail : ℕ) → IsRead t i value tail → tail ≡ 0 → i < length t
    → get_or t i 0 ≡ decimal_point → IsRead t (i + 1) value (length t - i)
more_point t i value tail h z l e =
    let Q : ℕ → Type 0 = λ n. IsReadTo (take i t) (point_of (length t) n) in
    let b = get_or t i 0 in
    let short : i ≤ length t = omega arith in
    let before : AreDigits (take i t) = subst Q z h.read in
    let P : List ℕ → Type 0 = λ u. IsReadTo u (Some i) in
    let R : Option ℕ → Type 0 = λ o. IsReadTo (take (i + 1) t) o in
    record {
      read = subst R (sym (point_is (length t) i l))
          (subst P (sym (take_more t i 0 l))
          (read_point (take i t) b i before e (length-take-le i t short)));
      is_value =
          h.is_value
          ∙ (sym (next_digit_no (digits_value (take i t)) b (ap is_ascii_digit e))
          ∙ sym (fold_more next_digit 0 t i 0 l));
      bound = omega (arith, digit_below value i h.bound);
      within = omega arith;
    }

read_all : (t : List ℕ) (i value tail : ℕ) → IsRead t i value tail → length t ≤ i
    → IsReadTo t (point_of (length t) tail)
read_all t i value tail h l =
    let P : List ℕ → Type 0 = λ u. IsReadTo u (point_of (length t) tail) in
    subst P (take_all i t l) h.read

-- the whole text
pub all_sign : (t : List ℕ) (i value tail : ℕ) (negative : Bool) → IsRead t i value tail
    → length t ≤ i → has_minus (mantissa (sign_text negative ++ t)) ≡ negative
all_sign t i value tail negative h l =
    read_sign negative t (point_of (length t) tail) (read_all t i value tail h l)

pub all_size : (t : List ℕ) (i value tail : ℕ) (negative : Bool) (k : ℕ) → IsRead t i value tail
    → length t ≤ i → fixed_size (sign_text negative ++ t) k
    ≡ half_size (value * 10 ^ k) (10 ^ (tail - 1))
all_size t i value tail negative k h l =
    let is_value : value ≡ digits_value t = h.is_value ∙ ap digits_value (take_all i t l) in
    read_size negative t (point_of (length t) tail) k (read_all t i value tail h l)
    ∙ (ap (λ v. half_size (v * 10 ^ k) (10 ^ fraction_of t (point_of (length t) tail)))
    (sym is_value)
    ∙ ap (λ n. half_size (value * 10 ^ k) (10 ^ n)) (fraction_is_tail t tail h.within))
