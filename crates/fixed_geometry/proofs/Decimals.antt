-- The steps by which `scaled` reads a decimal.
use Rattle.std.proofs.Common.{◌≡◌, ℕ, zero, suc, ◌+◌, ◌-◌, ◌*◌, ◌/◌, ◌^◌, ◌<◌, ◌≤◌, min, Bool, true}
use Rattle.std.proofs.Common.{false, cond, List, [], ◌∷◌, sym, refl, ap, ◌∙◌, subst, ⊎_elim, arith}
use Rattle.std.proofs.Common.{length, lit<, zero-add, get_or, take, take_all, drop}
use Rattle.std.proofs.Common.{take-append-drop, length-take}
use Rattle.std.proofs.Math.Nat.{add-mul-div_right, div-div-eq-div-mul, mul-div-mul_right}
use Rattle.std.proofs.Math.Nat.{mul-div_cancel, div-one, div-eq_of_lt, one-le-pow, mul-le-mul_left}
use Rattle.std.proofs.Math.Nat.{mul-le-mul_right, pow-le-pow_right, mul_comm, mul_assoc, mul-one}
use Rattle.std.proofs.Math.Nat.{zero-mul}
use Rattle.std.proofs.lemmas.Nat.{pow-add}
use Rattle.std.proofs.lemmas.Bool.{cases_lt}
use Rattle.std.proofs.lemmas.Bool.Decides.{nat_tests}
use Rattle.std.proofs.lemmas.List.Sums.{fold_more, sum_by_from, count_by_more_yes, count_by_more_no}
use Rattle.std.proofs.lemmas.List.Sums.{sum_by-append, count_by-le-length}
use Rattle.std.specs.List.{fold, position_or_len}
use Rattle.fixed_geometry.specs.Quotient.{half_size}
use Rattle.std.specs.Char.{is_ascii_digit}
use Rattle.fixed_geometry.specs.Decimal.{next_digit, is_point, is_exponent_mark, has_minus}
use Rattle.fixed_geometry.specs.Decimal.{whole_places, fraction_places, fixed_size, digits_value}
use Rattle.fixed_geometry.specs.Decimal.{digit_count, mantissa, exponent}

-- how many of the digits count, where `room` do with no exponent
abbrev pub keep_at : Bool → ℕ → ℕ → ℕ
keep_at divides room e = cond divides (room - e) (room + e)

pub clamped_step : (n d c : ℕ) → min (10 * min n c + d) c ≡ min (10 * n + d) c
clamped_step n d c = omega arith

pub half_by_tens : (n m : ℕ) → 0 < m → half_size n m ≡ (10 * n / m + 5) / 10
half_by_tens n m h =
    let ten : 10 * n / m + 5 ≡ (10 * n + 5 * m) / m = sym (add-mul-div_right (10 * n) 5 h) in
    let top : 10 * n + 5 * m ≡ (2 * n + m) * 5 = omega arith in
    let under : m * 10 ≡ 2 * m * 5 = omega arith in
    let whole : (10 * n + 5 * m) / m / 10 ≡ (10 * n + 5 * m) / (m * 10) =
    div-div-eq-div-mul (10 * n + 5 * m) m 10 in
    let small : (2 * n + m) * 5 / (2 * m * 5) ≡ (2 * n + m) / (2 * m) =
    mul-div-mul_right (2 * n + m) (2 * m) (omega arith) in
    rw (ten, whole, top, under, small)

pub shifted : (n a b : ℕ) → n * 10 ^ a / 10 ^ b ≡ n * 10 ^ (a - b) / 10 ^ (b - a)
shifted n a b = ⊎_elim
    (λ (h : a < b).
    let e : b ≡ (b - a) + a = omega arith in
    let p : 10 ^ b ≡ 10 ^ (b - a) * 10 ^ a = ap (λ x. 10 ^ x) e ∙ pow-add 10 (b - a) a in
    let z : a - b ≡ 0 = omega arith in
    let l : n * 10 ^ a / 10 ^ b ≡ n * 10 ^ a / (10 ^ (b - a) * 10 ^ a) =
    ap (λ x. n * 10 ^ a / x) p in
    let r : n * 10 ^ (a - b) / 10 ^ (b - a) ≡ n / 10 ^ (b - a) =
    ap (λ x. n * 10 ^ x / 10 ^ (b - a)) z ∙ ap (λ x. x / 10 ^ (b - a)) (mul-one n) in
    l ∙ (mul-div-mul_right n (10 ^ (b - a)) (one-le-pow a 10 (lit< tt)) ∙ sym r))
    (λ (h : b ≤ a).
    let e : a ≡ (a - b) + b = omega arith in
    let p : 10 ^ a ≡ 10 ^ (a - b) * 10 ^ b = ap (λ x. 10 ^ x) e ∙ pow-add 10 (a - b) b in
    let z : b - a ≡ 0 = omega arith in
    let l : n * 10 ^ a / 10 ^ b ≡ n * 10 ^ (a - b) * 10 ^ b / 10 ^ b =
    ap (λ x. n * x / 10 ^ b) p
    ∙ ap (λ x. x / 10 ^ b) (sym (mul_assoc n (10 ^ (a - b)) (10 ^ b))) in
    let r : n * 10 ^ (a - b) / 10 ^ (b - a) ≡ n * 10 ^ (a - b) =
    ap (λ x. n * 10 ^ (a - b) / 10 ^ x) z ∙ div-one (n * 10 ^ (a - b)) in
    l ∙ (mul-div_cancel (n * 10 ^ (a - b)) (one-le-pow b 10 (lit< tt)) ∙ sym r))
    (cases_lt a b)

-- ---- the digits

pub digit_most : (b : ℕ) → is_ascii_digit b ≡ true → b - 48 ≤ 9
digit_most b h = grind (arith, nat_tests)

spelled_step : (q : Bool) (a d c : ℕ) (F : ℕ → ℕ) → (q ≡ true → d ≤ 9)
    → ((x : ℕ) → F x < (x + 1) * 10 ^ c)
    → F (cond q (10 * a + d) a) < (a + 1) * 10 ^ (cond q 1 0 + c)
spelled_step false a d c F few h = rw (zero-add c) (h a)
spelled_step true a d c F few h =
    let most : (10 * a + d + 1) * 10 ^ c ≤ (a + 1) * 10 * 10 ^ c =
    mul-le-mul_right (10 ^ c) (omega (arith, few refl)) in
    let e : (a + 1) * 10 ^ (1 + c) ≡ (a + 1) * 10 * 10 ^ c =
    ap (λ x. (a + 1) * x) (pow-add 10 1 c) ∙ sym (mul_assoc (a + 1) 10 (10 ^ c)) in
    omega (arith, h (10 * a + d), most, e)

digit_count_cons : (b : ℕ) (t : List ℕ)
    → digit_count (b ∷ t) ≡ cond (is_ascii_digit b) 1 0 + digit_count t
digit_count_cons b t = sum_by_from (λ x. cond (is_ascii_digit x) 1 0)
    (0 + cond (is_ascii_digit b) 1 0) t
    ∙ ap (λ x. x + digit_count t) (zero-add (cond (is_ascii_digit b) 1 0))

pub spelled_lt_from : (a : ℕ) (t : List ℕ) → fold next_digit a t < (a + 1) * 10 ^ digit_count t
spelled_lt_from a [] = omega arith
spelled_lt_from a (b ∷ t) =
    let P : ℕ → Type 0 = λ n. fold next_digit (next_digit a b) t < (a + 1) * 10 ^ n in
    subst P (sym (digit_count_cons b t))
    (spelled_step (is_ascii_digit b) a (b - 48) (digit_count t) (λ x. fold next_digit x t)
    (digit_most b) (λ x. spelled_lt_from x t))

pub spelled_lt : (t : List ℕ) → digits_value t < 10 ^ digit_count t
spelled_lt t = omega (arith, spelled_lt_from 0 t)

-- ---- what is clamped to a ceiling

pub clamped_mul : (v m c : ℕ) → 0 < m → min (min v c * m) c ≡ min (v * m) c
clamped_mul v m c h = ⊎_elim
    (λ (l : v < c). let e : min v c ≡ v = omega arith in ap (λ x. min (x * m) c) e)
    (λ (l : c ≤ v).
    let e : min v c ≡ c = omega arith in
    let low : c * 1 ≤ c * m = mul-le-mul_left c h in
    let high : v * 1 ≤ v * m = mul-le-mul_left v h in
    let e' : min (min v c * m) c ≡ min (c * m) c = ap (λ x. min (x * m) c) e in
    let a : min (c * m) c ≡ c = omega arith in
    let b : min (v * m) c ≡ c = omega arith in
    e' ∙ (a ∙ sym b))
    (cases_lt v c)

pub pad_step : (v left c : ℕ) → 0 < left
    → min (min (10 * v) c * 10 ^ (left - 1)) c ≡ min (v * 10 ^ left) c
pad_step v left c h =
    let e : left ≡ 1 + (left - 1) = omega arith in
    let p : 10 ^ left ≡ 10 * 10 ^ (left - 1) = ap (λ x. 10 ^ x) e ∙ pow-add 10 1 (left - 1) in
    let q : 10 * v * 10 ^ (left - 1) ≡ v * 10 ^ left =
    ap (λ x. x * 10 ^ (left - 1)) (mul_comm 10 v)
    ∙ (mul_assoc v 10 (10 ^ (left - 1)) ∙ ap (λ x. v * x) (sym p)) in
    clamped_mul (10 * v) (10 ^ (left - 1)) c (one-le-pow (left - 1) 10 (lit< tt))
    ∙ ap (λ x. min x c) q

pub pad_full : (v left c : ℕ) → v ≡ c → v ≡ min (v * 10 ^ left) c
pad_full v left c e =
    let low : v * 1 ≤ v * 10 ^ left = mul-le-mul_left v (one-le-pow left 10 (lit< tt)) in
    omega arith

-- ---- the digits that are kept, and those that are let go

pub kept_step : (n d count keep : ℕ) → count < keep
    → (10 * n + d) / 10 ^ ((count + 1) - keep) ≡ 10 * (n / 10 ^ (count - keep)) + d
kept_step n d count keep h =
    let e : (count + 1) - keep ≡ 0 = omega arith in
    let e' : count - keep ≡ 0 = omega arith in
    rw (e, e') (div-one (10 * n + d) ∙ ap (λ x. 10 * x + d) (sym (div-one n)))

pub dropped_step : (n d count keep : ℕ) → d ≤ 9 → keep ≤ count
    → (10 * n + d) / 10 ^ ((count + 1) - keep) ≡ n / 10 ^ (count - keep)
dropped_step n d count keep few h =
    let e : (count + 1) - keep ≡ 1 + (count - keep) = omega arith in
    let p : 10 ^ ((count + 1) - keep) ≡ 10 * 10 ^ (count - keep) =
    ap (λ x. 10 ^ x) e ∙ pow-add 10 1 (count - keep) in
    let q : (10 * n + d) / 10 ≡ n = omega arith in
    ap (λ x. (10 * n + d) / x) p ∙ (sym (div-div-eq-div-mul (10 * n + d) 10 (10 ^ (count - keep)))
    ∙ ap (λ x. x / 10 ^ (count - keep)) q)

pub kept_end : (n count keep c : ℕ)
    → min (min (n / 10 ^ (count - keep)) c * 10 ^ (keep - count)) c
    ≡ min (n * 10 ^ (keep - count) / 10 ^ (count - keep)) c
kept_end n count keep c =
    clamped_mul (n / 10 ^ (count - keep)) (10 ^ (keep - count)) c
    (one-le-pow (keep - count) 10 (lit< tt))
    ∙ ⊎_elim
    (λ (h : count < keep). let e : count - keep ≡ 0 = omega arith in
    rw e (ap (λ x. min x c) (ap (λ x. x * 10 ^ (keep - count)) (div-one n)
    ∙ sym (div-one (n * 10 ^ (keep - count))))))
    (λ (h : keep ≤ count). let e : keep - count ≡ 0 = omega arith in
    rw e (ap (λ x. min x c) (mul-one (n / 10 ^ (count - keep))
    ∙ ap (λ x. x / 10 ^ (count - keep)) (sym (mul-one n)))))
    (cases_lt count keep)

-- ---- the loop over the digits

spelled_more_yes : (xs : List ℕ) (i : ℕ) → i < length xs → is_ascii_digit (get_or xs i 0) ≡ true
    → digits_value (take (i + 1) xs) ≡ 10 * digits_value (take i xs) + (get_or xs i 0 - 48)
spelled_more_yes xs i h y = fold_more next_digit 0 xs i 0 h
    ∙ ap (λ q. cond q (10 * digits_value (take i xs) + (get_or xs i 0 - 48))
    (digits_value (take i xs))) y

spelled_more_no : (xs : List ℕ) (i : ℕ) → i < length xs → is_ascii_digit (get_or xs i 0) ≡ false
    → digits_value (take (i + 1) xs) ≡ digits_value (take i xs)
spelled_more_no xs i h n = fold_more next_digit 0 xs i 0 h
    ∙ ap (λ q. cond q (10 * digits_value (take i xs) + (get_or xs i 0 - 48))
    (digits_value (take i xs))) n

-- what the loop over the digits keeps
pub record Led (xs : List ℕ) (keep i left value c : ℕ) : Type 0 where
  pub remains : left ≡ keep - digit_count (take i xs)
  pub kept : value ≡ min (digits_value (take i xs) / 10 ^ (digit_count (take i xs) - keep)) c

pub led_digit : (xs : List ℕ) (keep i left value c : ℕ) → Led xs keep i left value c → i < length xs
    → is_ascii_digit (get_or xs i 0) ≡ true → 0 < left
    → Led xs keep (i + 1) (left - 1) (min (10 * value + (get_or xs i 0 - 48)) c) c
led_digit xs keep i left value c led h y some =
    let m = spelled_more_yes xs i h y in
    let k = count_by_more_yes is_ascii_digit xs i 0 h y in
    let below : digit_count (take i xs) < keep = omega (arith, led.remains) in
    let step = kept_step (digits_value (take i xs)) (get_or xs i 0 - 48) (digit_count (take i xs))
    keep below in
    let r : left - 1 ≡ keep - (digit_count (take i xs) + 1) = omega (arith, led.remains) in
    record {
      remains = r ∙ ap (λ x. keep - x) (sym k);
      kept =
          ap (λ x. min (10 * x + (get_or xs i 0 - 48)) c) led.kept
          ∙ (clamped_step (digits_value (take i xs) / 10 ^ (digit_count (take i xs) - keep))
          (get_or xs i 0 - 48) c
          ∙ (ap (λ x. min x c) (sym step)
          ∙ (ap (λ x. min ((10 * digits_value (take i xs) + (get_or xs i 0 - 48)) / 10 ^ (x - keep))
          c) (sym k)
          ∙ ap (λ x. min (x / 10 ^ (digit_count (take (i + 1) xs) - keep)) c) (sym m))));
    }

pub led_dropped : (xs : List ℕ) (keep i left value c : ℕ) → Led xs keep i left value c
    → i < length xs → is_ascii_digit (get_or xs i 0) ≡ true → left ≤ 0
    → Led xs keep (i + 1) left value c
led_dropped xs keep i left value c led h y none =
    let m = spelled_more_yes xs i h y in
    let k = count_by_more_yes is_ascii_digit xs i 0 h y in
    let over : keep ≤ digit_count (take i xs) = omega (arith, led.remains) in
    let step = dropped_step (digits_value (take i xs)) (get_or xs i 0 - 48)
    (digit_count (take i xs)) keep (digit_most (get_or xs i 0) y) over in
    let r : left ≡ keep - (digit_count (take i xs) + 1) = omega (arith, led.remains) in
    record {
      remains = r ∙ ap (λ x. keep - x) (sym k);
      kept =
          led.kept
          ∙ (ap (λ x. min x c) (sym step)
          ∙ (ap (λ x. min ((10 * digits_value (take i xs) + (get_or xs i 0 - 48)) / 10 ^ (x - keep))
          c) (sym k)
          ∙ ap (λ x. min (x / 10 ^ (digit_count (take (i + 1) xs) - keep)) c) (sym m)));
    }

pub led_other : (xs : List ℕ) (keep i left value c : ℕ) → Led xs keep i left value c → i < length xs
    → is_ascii_digit (get_or xs i 0) ≡ false → Led xs keep (i + 1) left value c
led_other xs keep i left value c led h n =
    let m = spelled_more_no xs i h n in
    let k = count_by_more_no is_ascii_digit xs i 0 h n in
    record {
      remains = led.remains ∙ ap (λ x. keep - x) (sym k);
      kept =
          led.kept
          ∙ (ap (λ x. min (digits_value (take i xs) / 10 ^ (x - keep)) c) (sym k)
          ∙ ap (λ x. min (x / 10 ^ (digit_count (take (i + 1) xs) - keep)) c) (sym m));
    }

pub led_all : (xs : List ℕ) (keep i left value c : ℕ) → Led xs keep i left value c → length xs ≤ i
    → min (value * 10 ^ left) c
    ≡ min (digits_value xs * 10 ^ (keep - digit_count xs) / 10 ^ (digit_count xs - keep)) c
led_all xs keep i left value c led h =
    let all : take i xs ≡ xs = take_all i xs h in
    let r : left ≡ keep - digit_count xs = led.remains ∙ ap (λ x. keep - digit_count x) all in
    let k : value ≡ min (digits_value xs / 10 ^ (digit_count xs - keep)) c =
    led.kept ∙ ap (λ x. min (digits_value x / 10 ^ (digit_count x - keep)) c) all in
    rw (r, k) (kept_end (digits_value xs) (digit_count xs) keep c)

-- ---- how many digits to keep

pub tenfold : (n a : ℕ) → 10 * (n * 10 ^ a) ≡ n * 10 ^ (a + 1)
tenfold n a = mul_comm 10 (n * 10 ^ a)
    ∙ (mul_assoc n (10 ^ a) 10 ∙ ap (λ x. n * x) (sym (pow-add 10 a 1)))

-- where `keep` digits of the n's p + f stand before the rounding place's next one
pub window : (n p f k u l : ℕ) → n < 10 ^ (p + f)
    → half_size (n * 10 ^ (k + u)) (10 ^ (f + l))
    ≡ (n * 10 ^ ((p + k + 1 + u) - l - (p + f)) / 10 ^ ((p + f) - ((p + k + 1 + u) - l)) + 5) / 10
window n p f k u l small =
    let e1 = half_by_tens (n * 10 ^ (k + u)) (10 ^ (f + l)) (one-le-pow (f + l) 10 (lit< tt)) in
    let e2 = ap (λ x. (x / 10 ^ (f + l) + 5) / 10) (tenfold n (k + u)) in
    let e3 = ap (λ x. (x + 5) / 10) (shifted n (k + u + 1) (f + l)) in
    e1 ∙ (e2 ∙ (e3 ∙ ⊎_elim
    (λ (h : p + k + 1 + u < l).
    let over : f + l - (k + u + 1) ≡ (p + f) + (f + l - (k + u + 1) - (p + f)) = omega arith in
    let z1 : k + u + 1 - (f + l) ≡ 0 = omega arith in
    let z2 : p + k + 1 + u - l ≡ 0 = omega arith in
    let z3 : p + k + 1 + u - l - (p + f) ≡ 0 = omega arith in
    let z4 : p + f - (p + k + 1 + u - l) ≡ p + f = omega arith in
    let big : 10 ^ (p + f) ≤ 10 ^ (f + l - (k + u + 1)) =
    pow-le-pow_right (lit< tt) (omega arith) in
    let left : n * 10 ^ (k + u + 1 - (f + l)) / 10 ^ (f + l - (k + u + 1)) ≡ 0 =
    ap (λ x. n * 10 ^ x / 10 ^ (f + l - (k + u + 1))) z1
    ∙ div-eq_of_lt (omega (arith, big, small)) in
    let right : n * 10 ^ (p + k + 1 + u - l - (p + f)) / 10 ^ (p + f - (p + k + 1 + u - l)) ≡ 0 =
    ap (λ x. n * 10 ^ x / 10 ^ (p + f - (p + k + 1 + u - l))) z3
    ∙ (ap (λ x. n * 10 ^ 0 / 10 ^ x) z4 ∙ div-eq_of_lt (omega (arith, small))) in
    ap (λ x. (x + 5) / 10) (left ∙ sym right))
    (λ (h : l ≤ p + k + 1 + u).
    let a : k + u + 1 - (f + l) ≡ p + k + 1 + u - l - (p + f) = omega arith in
    let b : f + l - (k + u + 1) ≡ p + f - (p + k + 1 + u - l) = omega arith in
    ap (λ x. (n * 10 ^ x / 10 ^ (f + l - (k + u + 1)) + 5) / 10) a
    ∙ ap (λ x. (n * 10 ^ (p + k + 1 + u - l - (p + f)) / 10 ^ x + 5) / 10) b)
    (cases_lt (p + k + 1 + u) l)))

-- past twenty zeros the ceiling holds whatever the number
pub big : (n a b : ℕ) → 20 ≤ a → 20 ≤ b → min (n * 10 ^ a) (2 ^ 64) ≡ min (n * 10 ^ b) (2 ^ 64)
big zero a b h g = rw (zero-mul (10 ^ a), zero-mul (10 ^ b)) refl
big (suc n) a b h g =
    let ten : 0 < 10 = lit< tt in
    let pa : 10 ^ 20 ≤ 10 ^ a = pow-le-pow_right ten h in
    let pb : 10 ^ 20 ≤ 10 ^ b = pow-le-pow_right ten g in
    let ma : 1 * 10 ^ a ≤ suc n * 10 ^ a = mul-le-mul_right (10 ^ a) (omega arith) in
    let mb : 1 * 10 ^ b ≤ suc n * 10 ^ b = mul-le-mul_right (10 ^ b) (omega arith) in
    omega arith

pub clamped_keep : (negative : Bool) (n p f k e : ℕ) → p + f < 2 ^ 64 → k ≤ 9
    → min (n * 10 ^ (keep_at negative (p + k + 1) (min e (2 ^ 70)) - (p + f)) / 10 ^
    ((p + f) - keep_at negative (p + k + 1) (min e (2 ^ 70)))) (2 ^ 64)
    ≡ min (n * 10 ^ (keep_at negative (p + k + 1) e - (p + f)) / 10 ^
    ((p + f) - keep_at negative (p + k + 1) e)) (2 ^ 64)
clamped_keep true n p f k e short few =
    let same : p + k + 1 - min e (2 ^ 70) ≡ p + k + 1 - e = omega arith in
    ap (λ x. min (n * 10 ^ (x - (p + f)) / 10 ^ (p + f - x)) (2 ^ 64)) same
clamped_keep false n p f k e short few = ⊎_elim
    (λ (h : e < 2 ^ 70).
    let same : p + k + 1 + min e (2 ^ 70) ≡ p + k + 1 + e = omega arith in
    ap (λ x. min (n * 10 ^ (x - (p + f)) / 10 ^ (p + f - x)) (2 ^ 64)) same)
    (λ (h : 2 ^ 70 ≤ e).
    let z1 : p + f - (p + k + 1 + min e (2 ^ 70)) ≡ 0 = omega arith in
    let z2 : p + f - (p + k + 1 + e) ≡ 0 = omega arith in
    let a = p + k + 1 + min e (2 ^ 70) - (p + f) in
    let b = p + k + 1 + e - (p + f) in
    ap (λ x. min (n * 10 ^ a / 10 ^ x) (2 ^ 64)) z1
    ∙ (ap (λ x. min x (2 ^ 64)) (div-one (n * 10 ^ a))
    ∙ (big n a b (omega arith) (omega arith)
    ∙ (ap (λ x. min x (2 ^ 64)) (sym (div-one (n * 10 ^ b)))
    ∙ ap (λ x. min (n * 10 ^ b / 10 ^ x) (2 ^ 64)) (sym z2)))))
    (cases_lt e (2 ^ 70))

pub rounded_clamped : (t : ℕ) → min ((min t (2 ^ 64) + 5) / 10) (2 ^ 60 + 1)
    ≡ min ((t + 5) / 10) (2 ^ 60 + 1)
rounded_clamped t = omega arith

pub size_is : (negative : Bool) (n p f k e : ℕ) → n < 10 ^ (p + f) → p + f < 2 ^ 64 → k ≤ 9
    → min ((min (n * 10 ^ (keep_at negative (p + k + 1) (min e (2 ^ 70)) - (p + f)) / 10 ^
    ((p + f) - keep_at negative (p + k + 1) (min e (2 ^ 70)))) (2 ^ 64) + 5) / 10) (2 ^ 60 + 1)
    ≡ min (half_size (n * 10 ^ (k + cond negative 0 e)) (10 ^ (f + cond negative e 0))) (2 ^ 60 + 1)
size_is true n p f k e small short few =
    let keep = p + k + 1 - e in
    let room : p + k + 1 + 0 ≡ p + k + 1 = omega arith in
    let exact : half_size (n * 10 ^ (k + 0)) (10 ^ (f + e))
    ≡ (n * 10 ^ (keep - (p + f)) / 10 ^ ((p + f) - keep) + 5) / 10 =
    window n p f k 0 e small ∙ ap (λ x.
    (n * 10 ^ (x - e - (p + f)) / 10 ^ ((p + f) - (x - e)) + 5) / 10) room in
    ap (λ x. min ((x + 5) / 10) (2 ^ 60 + 1)) (clamped_keep true n p f k e short few)
    ∙ (rounded_clamped (n * 10 ^ (keep - (p + f)) / 10 ^ ((p + f) - keep))
    ∙ ap (λ x. min x (2 ^ 60 + 1)) (sym exact))
size_is false n p f k e small short few =
    let keep = p + k + 1 + e in
    let exact : half_size (n * 10 ^ (k + e)) (10 ^ (f + 0))
    ≡ (n * 10 ^ (keep - (p + f)) / 10 ^ ((p + f) - keep) + 5) / 10 =
    let all : keep - 0 ≡ keep = omega arith in
    window n p f k e 0 small ∙ ap (λ x. (n * 10 ^ (x - (p + f)) / 10 ^ ((p + f) - x) + 5) / 10)
    all in
    ap (λ x. min ((x + 5) / 10) (2 ^ 60 + 1)) (clamped_keep false n p f k e short few)
    ∙ (rounded_clamped (n * 10 ^ (keep - (p + f)) / 10 ^ ((p + f) - keep))
    ∙ ap (λ x. min x (2 ^ 60 + 1)) (sym exact))

length-take-le : (i : ℕ) (t : List ℕ) → length (take i t) ≤ length t
length-take-le i t = omega (arith, length-take i t)

-- ---- the whole reading

digits_split : (i : ℕ) (t : List ℕ)
    → digit_count t ≡ digit_count (take i t) + digit_count (drop i t)
digits_split i t = ap digit_count (sym (take-append-drop i t))
    ∙ sum_by-append (λ x. cond (is_ascii_digit x) 1 0) (take i t) (drop i t)

-- what the code answers is the rounded size, clamped
pub size_of_text : (t : List ℕ) (k room power keep clamped : ℕ) → length t < 2 ^ 64 → k ≤ 9
    → room ≡ whole_places t + k + 1 → power ≡ min (digits_value (exponent t)) (2 ^ 70)
    → keep ≡ keep_at (has_minus (exponent t)) room power
    → clamped ≡ min (digits_value (mantissa t) * 10 ^ (keep - digit_count (mantissa t)) / 10 ^
    (digit_count (mantissa t) - keep)) (2 ^ 64)
    → min ((clamped + 5) / 10) (2 ^ 60 + 1) ≡ min (fixed_size t k) (2 ^ 60 + 1)
size_of_text t k room power keep clamped short few is_room is_power is_keep is_clamped =
    let split : digit_count (mantissa t) ≡ whole_places t + fraction_places t =
    digits_split (position_or_len is_point (mantissa t)) (mantissa t) in
    let n = digits_value (mantissa t) in
    let small : n < 10 ^ (whole_places t + fraction_places t) =
    let P : ℕ → Type 0 = λ x. digits_value (mantissa t) < 10 ^ x in
    subst P split (spelled_lt (mantissa t)) in
    let count : digit_count (mantissa t) ≤ length (mantissa t) =
    count_by-le-length is_ascii_digit (mantissa t) in
    let prefix : length (mantissa t) ≤ length t =
    length-take-le (position_or_len is_exponent_mark t) t in
    let keeps : keep ≡ keep_at (has_minus (exponent t)) (whole_places t + k + 1)
    (min (digits_value (exponent t)) (2 ^ 70)) =
    is_keep ∙ (ap (λ x. keep_at (has_minus (exponent t)) x power) is_room
    ∙ ap (λ x. keep_at (has_minus (exponent t)) (whole_places t + k + 1) x) is_power) in
    ap (λ x. min ((x + 5) / 10) (2 ^ 60 + 1)) is_clamped
    ∙ (ap (λ x. min ((min (n * 10 ^ (keep - x) / 10 ^ (x - keep)) (2 ^ 64) + 5) / 10) (2 ^ 60 + 1))
    split
    ∙ (ap (λ x. min ((min (n * 10 ^ (x - (whole_places t + fraction_places t)) / 10 ^
    ((whole_places t + fraction_places t) - x)) (2 ^ 64) + 5) / 10) (2 ^ 60 + 1)) keeps
    ∙ size_is (has_minus (exponent t)) n (whole_places t) (fraction_places t) k
    (digits_value (exponent t)) small (omega arith) few))

-- ---- one more digit behind those that were read

pub digit_below : (value i : ℕ) → value < 10 ^ i → 10 * value + 9 < 10 ^ (i + 1)
digit_below value i h = omega (arith, pow-add 10 i 1)

pub digit_fits : (value i : ℕ) → value < 10 ^ i → i < 19 → 10 * value + 9 < 10 ^ 19
digit_fits value i h l =
    let place : i + 1 ≤ 19 = omega arith in
    let power : 10 ^ (i + 1) ≤ 10 ^ 19 = pow-le-pow_right (lit< tt) place in
    omega (arith, digit_below value i h)

pub next_digit_yes : (n b : ℕ) → is_ascii_digit b ≡ true → next_digit n b ≡ 10 * n + (b - 48)
next_digit_yes n b h = ap (λ q. cond q (10 * n + (b - 48)) n) h

pub next_digit_no : (n b : ℕ) → is_ascii_digit b ≡ false → next_digit n b ≡ n
next_digit_no n b h = ap (λ q. cond q (10 * n + (b - 48)) n) h
