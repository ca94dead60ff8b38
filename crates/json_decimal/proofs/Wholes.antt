-- How the digits of a decimal and its exponent tell whether its value is whole, and what it is.
use Rattle.std.proofs.Common.{◌≡◌, ℕ, ℤ, zero, suc, ◌+◌, ◌-◌, ◌*◌, ◌/◌, ◌%◌, ◌^◌, ◌<◌, ◌≤◌, ◌==◌, min}
use Rattle.std.proofs.Common.{Bool, true, false, cond, List, sym, refl, ap, ◌∙◌, subst, ⊎_elim}
use Rattle.std.proofs.Common.{arith, length, lit<, get_or, take, take_all, Option, Some, None, ◌&&◌}
use Rattle.std.proofs.Common.{take-append-drop, drop, length-take}
use Rattle.std.proofs.Math.Nat.{mul-div-mul_right, mod-eq_of_lt, div-eq_of_lt, mod-lt, one-le-pow}
use Rattle.std.proofs.Math.Nat.{pow-le-pow_right, mul-le-mul_right, mul-one, mod-one, div-one}
use Rattle.std.proofs.Math.Nat.{mul_comm, mul_assoc, zero-mul, add-mul-div_right}
use Rattle.std.proofs.lemmas.Nat.{pow-add, mod-mul-add, div-add-mod'}
use Rattle.std.proofs.lemmas.Bool.{cases_lt}
use Rattle.std.proofs.lemmas.Bool.Decides.{nat_tests}
use Rattle.std.proofs.lemmas.List.Sums.{fold_more, count_by_more_yes, count_by_more_no}
use Rattle.std.proofs.lemmas.List.Sums.{sum_by-append, count_by-le-length}
use Rattle.std.specs.Option.{option_map}
use Rattle.std.specs.Char.{is_ascii_digit}
use Rattle.std.specs.Prelude.{unsigned_abs, nat_le}
use Rattle.std.specs.List.{position_or_len, before_first}
use Rattle.fixed_geometry.specs.Decimal.{digits_value, digit_count, next_digit, mantissa, exponent}
use Rattle.fixed_geometry.specs.Decimal.{has_minus, with_sign, is_point, fraction_places}
use Rattle.fixed_geometry.specs.Decimal.{whole_places, is_exponent_mark, positive_exponent}
use Rattle.fixed_geometry.specs.Decimal.{negative_exponent}
use Rattle.fixed_geometry.specs.Quotient.{half_size}
use Rattle.fixed_geometry.proofs.Decimals.{Led, led_digit, led_dropped, led_other, led_all}
use Rattle.fixed_geometry.proofs.Decimals.{clamped_mul, digit_most, next_digit_yes, next_digit_no}
use Rattle.fixed_geometry.proofs.Decimals.{spelled_lt}
use Rattle.json_decimal.specs.WholeSizes.{exact_quotient}
use Rattle.json_decimal.specs.declared.whole.Whole.TheVariants.{Is, Beyond}
use Rattle.json_decimal.specs.WholeNumbers.{as_told, clamped, whole_value}

-- ---- quotients with nothing left over

none_times : (r m : ℕ) → 0 < m → (r * m == 0) ≡ (r == 0)
none_times zero m h = rw (zero-mul m)
none_times (suc r) m h =
    let some : 1 * m ≤ suc r * m = mul-le-mul_right m (omega arith) in
    grind (arith, nat_tests)

rest_scaled : (n d m : ℕ) → 0 < d → 0 < m → n * m % (d * m) ≡ n % d * m
rest_scaled n d m h g =
    let below : n % d < d = mod-lt n h in
    let small : (n % d + 1) * m ≤ d * m = mul-le-mul_right m (omega arith) in
    let parts : n * m ≡ n / d * (d * m) + n % d * m =
    ap (λ x. x * m) (sym (div-add-mod' n d)) ∙ (omega arith) in
    ap (λ x. x % (d * m)) parts ∙ mod-mul-add (n / d) (d * m) (n % d * m) (omega arith)

exact_scaled : (n d m : ℕ) → 0 < d → 0 < m → exact_quotient (n * m) (d * m) ≡ exact_quotient n d
exact_scaled n d m h g =
    ap (λ q. cond q (Some (n * m / (d * m))) None)
    (ap (λ r. r == 0) (rest_scaled n d m h g) ∙ none_times (n % d) m g)
    ∙ ap (λ x. cond (n % d == 0) (Some x) None) (mul-div-mul_right n d g)

exact_small : (n d e : ℕ) → n < d → n < e → exact_quotient n d ≡ exact_quotient n e
exact_small n d e h g = rw (mod-eq_of_lt h, mod-eq_of_lt g, div-eq_of_lt h, div-eq_of_lt g)

exact_one : (n : ℕ) → exact_quotient n 1 ≡ Some n
exact_one n = rw (mod-one n, div-one n)

chosen : {A B : Type 0} (q : Bool) (n : A) (f : A → B)
    → cond q (Some (f n)) None ≡ option_map f (cond q (Some n) None)
chosen true n f = refl
chosen false n f = refl

-- ---- digits, of which so many stand before the point

-- the number that has n for its `count` digits, of which `places` stand before the point, if it is whole
abbrev pub number_at : ℕ → ℕ → ℕ → Option ℕ
number_at n count places = exact_quotient (n * 10 ^ (places - count)) (10 ^ (count - places))

exact_shifted : (n a b : ℕ) → exact_quotient (n * 10 ^ a) (10 ^ b) ≡ number_at n b a
exact_shifted n a b = ⊎_elim
    (λ (h : a < b).
    let p : 10 ^ b ≡ 10 ^ (b - a) * 10 ^ a =
    ap (λ x. 10 ^ x) (omega arith) ∙ pow-add 10 (b - a) a in
    let z : a - b ≡ 0 = omega arith in
    ap (λ x. exact_quotient (n * 10 ^ a) x) p
    ∙ (exact_scaled n (10 ^ (b - a)) (10 ^ a) (one-le-pow (b - a) 10 (lit< tt))
    (one-le-pow a 10 (lit< tt))
    ∙ ap (λ x. exact_quotient x (10 ^ (b - a)))
    (sym (ap (λ x. n * 10 ^ x) z ∙ mul-one n))))
    (λ (h : b ≤ a).
    let p : 10 ^ a ≡ 10 ^ (a - b) * 10 ^ b =
    ap (λ x. 10 ^ x) (omega arith) ∙ pow-add 10 (a - b) b in
    let z : b - a ≡ 0 = omega arith in
    let top : n * 10 ^ a ≡ n * 10 ^ (a - b) * 10 ^ b =
    ap (λ x. n * x) p ∙ sym (mul_assoc n (10 ^ (a - b)) (10 ^ b)) in
    let under : 10 ^ b ≡ 1 * 10 ^ b = omega arith in
    ap (λ x. exact_quotient x (10 ^ b)) top
    ∙ (ap (λ x. exact_quotient (n * 10 ^ (a - b) * 10 ^ b) x) under
    ∙ (exact_scaled (n * 10 ^ (a - b)) 1 (10 ^ b) (lit< tt) (one-le-pow b 10 (lit< tt))
    ∙ ap (λ x. exact_quotient (n * 10 ^ (a - b)) (10 ^ x)) (sym z))))
    (cases_lt a b)

-- how many digits stand before the point, where `whole` do with no exponent
abbrev pub places_at : Bool → ℕ → ℕ → ℕ
places_at divides whole e = cond divides (whole - e) (whole + e)

-- an exponent moves the point
number_moved : (divides : Bool) (n w f e : ℕ) → n < 10 ^ (w + f)
    → exact_quotient (n * 10 ^ cond divides 0 e) (10 ^ (f + cond divides e 0))
    ≡ number_at n (w + f) (places_at divides w e)
number_moved false n w f e small =
    exact_shifted n e (f + 0)
    ∙ (ap (λ x. exact_quotient (n * 10 ^ x) (10 ^ (f + 0 - e))) (omega arith)
    ∙ ap (λ x. exact_quotient (n * 10 ^ (w + e - (w + f))) (10 ^ x)) (omega arith))
number_moved true n w f e small =
    let none : 0 ≡ w - e - (w + f) = omega arith in
    ap (λ x. exact_quotient (n * 10 ^ x) (10 ^ (f + e))) none
    ∙ ⊎_elim
    (λ (h : w < e).
    let all : w + f - (w - e) ≡ w + f = omega arith in
    let more : w + f ≤ f + e = omega arith in
    let power : 10 ^ (w + f) ≤ 10 ^ (f + e) = pow-le-pow_right (lit< tt) more in
    let same : n * 10 ^ (w - e - (w + f)) ≡ n =
    ap (λ x. n * 10 ^ x) (sym none) ∙ mul-one n in
    ap (λ x. exact_quotient x (10 ^ (f + e))) same
    ∙ (exact_small n (10 ^ (f + e)) (10 ^ (w + f)) (omega arith) small
    ∙ (ap (λ x. exact_quotient n (10 ^ x)) (sym all)
    ∙ ap (λ x. exact_quotient x (10 ^ (w + f - (w - e)))) (sym same))))
    (λ (h : e ≤ w).
    ap (λ x. exact_quotient (n * 10 ^ (w - e - (w + f))) (10 ^ x)) (omega arith))
    (cases_lt w e)

-- ---- what is clamped to 128 bits

-- so many zeros are more than 128 bits hold
many_zeros : (n a : ℕ) → 0 < n → 39 ≤ a → min (n * 10 ^ a) (2 ^ 128 - 1) ≡ 2 ^ 128 - 1
many_zeros n a h more =
    let power : 10 ^ 39 ≤ 10 ^ a = pow-le-pow_right (lit< tt) more in
    let some : 1 * 10 ^ a ≤ n * 10 ^ a = mul-le-mul_right (10 ^ a) h in
    omega arith

as_many_zeros : (n a b : ℕ) → 39 ≤ a → 39 ≤ b
    → min (n * 10 ^ a) (2 ^ 128 - 1) ≡ min (n * 10 ^ b) (2 ^ 128 - 1)
as_many_zeros zero a b h g = rw (zero-mul (10 ^ a), zero-mul (10 ^ b))
as_many_zeros (suc n) a b h g =
    many_zeros (suc n) a (omega arith) h ∙ sym (many_zeros (suc n) b (omega arith) g)

pub zeros_clamped : (v z : ℕ)
    → min (v * min (10 ^ min z 39) (2 ^ 128 - 1)) (2 ^ 128 - 1) ≡ min (v * 10 ^ z) (2 ^ 128 - 1)
zeros_clamped zero z = rw (zero-mul (10 ^ z), zero-mul (min (10 ^ min z 39) (2 ^ 128 - 1)))
zeros_clamped (suc v) z =
    let w = suc v in
    let turned : w * min (10 ^ min z 39) (2 ^ 128 - 1) ≡ min (10 ^ min z 39) (2 ^ 128 - 1) * w =
    mul_comm w (min (10 ^ min z 39) (2 ^ 128 - 1)) in
    ap (λ x. min x (2 ^ 128 - 1)) turned
    ∙ (clamped_mul (10 ^ min z 39) w (2 ^ 128 - 1) (omega arith)
    ∙ (ap (λ x. min x (2 ^ 128 - 1)) (mul_comm (10 ^ min z 39) w)
    ∙ ⊎_elim
    (λ (h : z < 39). let e : min z 39 ≡ z = omega arith in
    ap (λ x. min (w * 10 ^ x) (2 ^ 128 - 1)) e)
    (λ (h : 39 ≤ z). as_many_zeros w (min z 39) z (omega arith) h)
    (cases_lt z 39)))

-- so many places are more than there are digits
pub places_clamped : (n count places : ℕ) → count < 2 ^ 63
    → option_map (λ x. min x (2 ^ 128 - 1)) (number_at n count (min places (2 ^ 64 - 1)))
    ≡ option_map (λ x. min x (2 ^ 128 - 1)) (number_at n count places)
places_clamped n count places short = ⊎_elim
    (λ (h : places < 2 ^ 64). let e : min places (2 ^ 64 - 1) ≡ places = omega arith in
    ap (λ x. option_map (λ y. min y (2 ^ 128 - 1)) (number_at n count x)) e)
    (λ (h : 2 ^ 64 ≤ places).
    let most = min places (2 ^ 64 - 1) in
    let none : count - most ≡ 0 = omega arith in
    let none' : count - places ≡ 0 = omega arith in
    let same = as_many_zeros n (most - count) (places - count) (omega arith) (omega arith) in
    ap (λ x. option_map (λ y. min y (2 ^ 128 - 1))
    (exact_quotient (n * 10 ^ (most - count)) (10 ^ x))) none
    ∙ (ap (λ x. option_map (λ y. min y (2 ^ 128 - 1)) x) (exact_one (n * 10 ^ (most - count)))
    ∙ (ap Some same
    ∙ (sym (ap (λ x. option_map (λ y. min y (2 ^ 128 - 1)) x)
    (exact_one (n * 10 ^ (places - count))))
    ∙ ap (λ x. option_map (λ y. min y (2 ^ 128 - 1))
    (exact_quotient (n * 10 ^ (places - count)) (10 ^ x))) (sym none')))))
    (cases_lt places (2 ^ 64))

-- ---- the loop over the digits

-- what the loop keeps
pub record Scanned (xs : List ℕ) (places i left value c : ℕ) (is_whole : Bool) : Type 0 where
  pub led : Led xs places i left value c
  pub zeros : is_whole
      ≡ (digits_value (take i xs) % 10 ^ (digit_count (take i xs) - places) == 0)

value_more_yes : (xs : List ℕ) (i : ℕ) → i < length xs → is_ascii_digit (get_or xs i 0) ≡ true
    → digits_value (take (i + 1) xs) ≡ 10 * digits_value (take i xs) + (get_or xs i 0 - 48)
value_more_yes xs i h y = fold_more next_digit 0 xs i 0 h
    ∙ next_digit_yes (digits_value (take i xs)) (get_or xs i 0) y

value_more_no : (xs : List ℕ) (i : ℕ) → i < length xs → is_ascii_digit (get_or xs i 0) ≡ false
    → digits_value (take (i + 1) xs) ≡ digits_value (take i xs)
value_more_no xs i h n = fold_more next_digit 0 xs i 0 h
    ∙ next_digit_no (digits_value (take i xs)) (get_or xs i 0) n

nothing_behind : (n count places : ℕ) → count ≤ places → (n % 10 ^ (count - places) == 0) ≡ true
nothing_behind n count places h =
    let none : count - places ≡ 0 = omega arith in
    ap (λ x. n % 10 ^ x == 0) none ∙ ap (λ x. x == 0) (mod-one n)

both_none : (r d : ℕ) → (10 * r + d == 0) ≡ ((r == 0) && (d == 0))
both_none zero zero = refl
both_none zero (suc d) = grind (arith, nat_tests)
both_none (suc r) d = grind (arith, nat_tests)

digit_is_zero : (b : ℕ) → is_ascii_digit b ≡ true → (b - 48 == 0) ≡ (b == 48)
digit_is_zero b h = grind (arith, nat_tests)

one_behind : (n d count places : ℕ) → d ≤ 9 → places ≤ count
    → ((10 * n + d) % 10 ^ (count + 1 - places) == 0)
    ≡ ((n % 10 ^ (count - places) == 0) && (d == 0))
one_behind n d count places few h =
    let m = 10 ^ (count - places) in
    let some : 0 < m = one-le-pow (count - places) 10 (lit< tt) in
    let power : 10 ^ (count + 1 - places) ≡ 10 * m =
    ap (λ x. 10 ^ x) (omega arith) ∙ pow-add 10 1 (count - places) in
    let below : n % m < m = mod-lt n some in
    let parts : 10 * n + d ≡ n / m * (10 * m) + (10 * (n % m) + d) =
    omega (arith, div-add-mod' n m) in
    ap (λ x. (10 * n + d) % x == 0) power
    ∙ (ap (λ x. x % (10 * m) == 0) parts
    ∙ (ap (λ x. x == 0) (mod-mul-add (n / m) (10 * m) (10 * (n % m) + d) (omega arith))
    ∙ both_none (n % m) d))

pub scanned_digit : (xs : List ℕ) (places i left value c : ℕ) (is_whole : Bool)
    → Scanned xs places i left value c is_whole → i < length xs
    → is_ascii_digit (get_or xs i 0) ≡ true → 0 < left
    → Scanned xs places (i + 1) (left - 1) (min (10 * value + (get_or xs i 0 - 48)) c) c is_whole
scanned_digit xs places i left value c is_whole s h y some =
    let m = value_more_yes xs i h y in
    let k = count_by_more_yes is_ascii_digit xs i 0 h y in
    let below : digit_count (take i xs) < places = omega (arith, s.led.remains) in
    let next : digit_count (take (i + 1) xs) ≤ places = omega arith in
    record {
      led = led_digit xs places i left value c s.led h y some;
      zeros =
          s.zeros
          ∙ (nothing_behind (digits_value (take i xs)) (digit_count (take i xs)) places
          (omega arith)
          ∙ sym (nothing_behind (digits_value (take (i + 1) xs)) (digit_count (take (i + 1) xs))
          places next));
    }

pub scanned_dropped : (xs : List ℕ) (places i left value c : ℕ) (is_whole : Bool)
    → Scanned xs places i left value c is_whole → i < length xs
    → is_ascii_digit (get_or xs i 0) ≡ true → left ≤ 0
    → Scanned xs places (i + 1) left value c (is_whole && (get_or xs i 0 == 48))
scanned_dropped xs places i left value c is_whole s h y none =
    let n = digits_value (take i xs) in
    let count = digit_count (take i xs) in
    let b = get_or xs i 0 in
    let m = value_more_yes xs i h y in
    let k = count_by_more_yes is_ascii_digit xs i 0 h y in
    let over : places ≤ count = omega (arith, s.led.remains) in
    record {
      led = led_dropped xs places i left value c s.led h y none;
      zeros =
          ap (λ q. q && (b == 48)) s.zeros
          ∙ (ap (λ q. (n % 10 ^ (count - places) == 0) && q) (sym (digit_is_zero b y))
          ∙ (sym (one_behind n (b - 48) count places (digit_most b y) over)
          ∙ (ap (λ x. x % 10 ^ (count + 1 - places) == 0) (sym m)
          ∙ ap (λ x. digits_value (take (i + 1) xs) % 10 ^ (x - places) == 0) (sym k))));
    }

pub scanned_other : (xs : List ℕ) (places i left value c : ℕ) (is_whole : Bool)
    → Scanned xs places i left value c is_whole → i < length xs
    → is_ascii_digit (get_or xs i 0) ≡ false → Scanned xs places (i + 1) left value c is_whole
scanned_other xs places i left value c is_whole s h n =
    let m = value_more_no xs i h n in
    let k = count_by_more_no is_ascii_digit xs i 0 h n in
    record {
      led = led_other xs places i left value c s.led h n;
      zeros =
          s.zeros
          ∙ (ap (λ x. x % 10 ^ (digit_count (take i xs) - places) == 0) (sym m)
          ∙ ap (λ x. digits_value (take (i + 1) xs) % 10 ^ (x - places) == 0) (sym k));
    }

same_test : (n count places : ℕ) → (n * 10 ^ (places - count) % 10 ^ (count - places) == 0)
    ≡ (n % 10 ^ (count - places) == 0)
same_test n count places = ⊎_elim
    (λ (h : count < places).
    nothing_behind (n * 10 ^ (places - count)) count places (omega arith)
    ∙ sym (nothing_behind n count places (omega arith)))
    (λ (h : places ≤ count).
    let none : places - count ≡ 0 = omega arith in
    ap (λ x. x % 10 ^ (count - places) == 0) (ap (λ x. n * 10 ^ x) none ∙ mul-one n))
    (cases_lt count places)

pub scanned_all : (xs : List ℕ) (places i left value c : ℕ) (is_whole : Bool)
    → Scanned xs places i left value c is_whole → length xs ≤ i
    → cond is_whole (Some (min (value * 10 ^ left) c)) None
    ≡ option_map (λ n. min n c) (number_at (digits_value xs) (digit_count xs) places)
scanned_all xs places i left value c is_whole s h =
    let n = digits_value xs in
    let count = digit_count xs in
    let all : take i xs ≡ xs = take_all i xs h in
    let test : is_whole ≡ (n * 10 ^ (places - count) % 10 ^ (count - places) == 0) =
    s.zeros ∙ (ap (λ x. digits_value x % 10 ^ (digit_count x - places) == 0) all
    ∙ sym (same_test n count places)) in
    let size = led_all xs places i left value c s.led h in
    ap (λ x. cond is_whole (Some x) None) size
    ∙ (ap (λ q. cond q (Some (min (n * 10 ^ (places - count) / 10 ^ (count - places)) c)) None) test
    ∙ chosen (n * 10 ^ (places - count) % 10 ^ (count - places) == 0)
    (n * 10 ^ (places - count) / 10 ^ (count - places)) (λ n. min n c))

-- ---- the whole reading

-- where nothing is left over, nothing is rounded
half_exact : (n d : ℕ) → 0 < d → n % d ≡ 0 → half_size n d ≡ n / d
half_exact n d h e =
    let parts : 2 * n + d ≡ d + n / d * (2 * d) = omega (arith, div-add-mod' n d) in
    let none : d / (2 * d) ≡ 0 = div-eq_of_lt (omega arith) in
    ap (λ x. x / (2 * d)) parts
    ∙ (add-mul-div_right d (n / d) (omega arith) ∙ ap (λ x. x + n / d) none ∙ (omega arith))

with_sign_size : (negative : Bool) (n : ℕ) → unsigned_abs (with_sign negative n) ≡ n
with_sign_size true zero = refl
with_sign_size true (suc n) = refl
with_sign_size false n = refl

told_beyond : (negative : Bool) (n : ℕ) → 2 ^ 63 ≤ n → as_told (with_sign negative n) ≡ Beyond
told_beyond negative n h =
    let size = with_sign_size negative n in
    let past : nat_le (unsigned_abs (with_sign negative n)) (2 ^ 63 - 1) ≡ false =
    ap (λ x. nat_le x (2 ^ 63 - 1)) size ∙ grind (arith, nat_tests) in
    ap (λ q. cond q (Is (with_sign negative n)) Beyond) past

-- clamped or not, it is told in the same way
pub told_clamped : (negative : Bool) (n : ℕ)
    → as_told (with_sign negative (min n (2 ^ 128 - 1))) ≡ as_told (with_sign negative n)
told_clamped negative n = ⊎_elim
    (λ (h : n < 2 ^ 128). let e : min n (2 ^ 128 - 1) ≡ n = omega arith in
    ap (λ x. as_told (with_sign negative x)) e)
    (λ (h : 2 ^ 128 ≤ n).
    told_beyond negative (min n (2 ^ 128 - 1)) (omega arith)
    ∙ sym (told_beyond negative n (omega arith)))
    (cases_lt n (2 ^ 128))

pub clamped_sign : (negative : Bool) (n : ℕ)
    → clamped (with_sign negative n) ≡ with_sign negative (min n (2 ^ 127 - 1))
clamped_sign false n = refl
clamped_sign true zero = refl
clamped_sign true (suc n) = refl

-- so it is where it is clamped again
pub clamped_again : (negative : Bool) (n : ℕ)
    → clamped (with_sign negative (min n (2 ^ 128 - 1))) ≡ clamped (with_sign negative n)
clamped_again negative n =
    let same : min (min n (2 ^ 128 - 1)) (2 ^ 127 - 1) ≡ min n (2 ^ 127 - 1) = omega arith in
    clamped_sign negative (min n (2 ^ 128 - 1))
    ∙ (ap (with_sign negative) same ∙ sym (clamped_sign negative n))

exact_value : (negative : Bool) (n m d : ℕ) (q : Bool) → m ≡ n → 0 < d → (n % d == 0) ≡ q
    → cond q (Some (with_sign negative (half_size m d))) None
    ≡ option_map (with_sign negative) (cond q (Some (n / d)) None)
exact_value negative n m d true e h t =
    ap (λ x. Some (with_sign negative (half_size x d))) e
    ∙ ap (λ x. Some (with_sign negative x)) (half_exact n d h (grind (arith, nat_tests)))
exact_value negative n m d false e h t = refl

digits_split : (i : ℕ) (t : List ℕ)
    → digit_count t ≡ digit_count (take i t) + digit_count (drop i t)
digits_split i t = ap digit_count (sym (take-append-drop i t))
    ∙ sum_by-append (λ x. cond (is_ascii_digit x) 1 0) (take i t) (drop i t)

module _ {T : Type 0} (told_of : ℤ → T)
    (same : (negative : Bool) (n : ℕ)
    → told_of (with_sign negative (min n (2 ^ 128 - 1))) ≡ told_of (with_sign negative n)) where
  all_told : (negative : Bool) (o : Option ℕ)
      → option_map (λ n. told_of (with_sign negative n)) (option_map (λ n. min n (2 ^ 128 - 1)) o)
      ≡ option_map told_of (option_map (with_sign negative) o)
  all_told negative None = refl
  all_told negative (Some n) = ap Some (same negative n)

  -- what the code answers is the value, where it is whole, however it is told
  pub whole_is : (t m x : List ℕ) (places : ℕ) (size : Option ℕ) → length t < 2 ^ 63
      → m ≡ mantissa t → x ≡ exponent t
      → places
      ≡ min (places_at (has_minus x) (digit_count (before_first is_point m)) (digits_value x))
      (2 ^ 64 - 1)
      → size
      ≡ option_map (λ n. min n (2 ^ 128 - 1)) (number_at (digits_value m) (digit_count m) places)
      → option_map (λ n. told_of (with_sign (has_minus m) n)) size
      ≡ option_map told_of (whole_value t)
  whole_is t m x places size short is_mantissa is_exponent is_places is_size =
      let n = digits_value (mantissa t) in
      let count = digit_count (mantissa t) in
      let w = whole_places t in
      let f = fraction_places t in
      let e = digits_value (exponent t) in
      let divides = has_minus (exponent t) in
      let negative = has_minus (mantissa t) in
      let split : count ≡ w + f = digits_split (position_or_len is_point (mantissa t)) (mantissa t) in
      let small : n < 10 ^ (w + f) = subst (λ y. n < 10 ^ y) split (spelled_lt (mantissa t)) in
      let few : count ≤ length (mantissa t) = count_by-le-length is_ascii_digit (mantissa t) in
      let prefix : length (mantissa t) ≤ length t =
      omega (arith, length-take (position_or_len is_exponent_mark t) t) in
      let top = n * 10 ^ positive_exponent t in
      let under = 10 ^ (f + negative_exponent t) in
      let value : option_map (with_sign negative) (exact_quotient top under) ≡ whole_value t =
      sym (exact_value negative top (n * 10 ^ (0 + positive_exponent t)) under (top % under == 0)
      (ap (λ y. n * 10 ^ y) (omega arith)) (one-le-pow (f + negative_exponent t) 10 (lit< tt)) refl) in
      let moved : exact_quotient top under ≡ number_at n (w + f) (places_at divides w e) =
      number_moved divides n w f e small in
      let told = λ (o : Option ℕ). option_map (λ y. told_of (with_sign negative y)) o in
      let clamped = λ (o : Option ℕ). option_map (λ y. min y (2 ^ 128 - 1)) o in
      let keep : places ≡ min (places_at divides w e) (2 ^ 64 - 1) =
      is_places
      ∙ (ap (λ y. min (places_at (has_minus x) (digit_count (before_first is_point y))
      (digits_value x)) (2 ^ 64 - 1)) is_mantissa
      ∙ ap (λ y. min (places_at (has_minus y) w (digits_value y)) (2 ^ 64 - 1)) is_exponent) in
      let known : size ≡ clamped (number_at n count places) =
      is_size ∙ ap (λ y. clamped (number_at (digits_value y) (digit_count y) places)) is_mantissa in
      ap (λ y. option_map (λ z. told_of (with_sign (has_minus y) z)) size) is_mantissa
      ∙ (ap told known
      ∙ (ap (λ y. told (clamped (number_at n count y))) keep
      ∙ (ap told (places_clamped n count (places_at divides w e) (omega arith))
      ∙ (ap (λ y. told (clamped (number_at n y (places_at divides w e)))) split
      ∙ (ap (λ y. told (clamped y)) (sym moved)
      ∙ (all_told negative (exact_quotient top under)
      ∙ ap (option_map told_of) value))))))
