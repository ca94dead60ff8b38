-- Digits that end within a block, and the parts of a number that end with them.
use Rattle.std.proofs.Common.{◌≡◌, ℕ, suc, ◌+◌, ◌-◌, ◌/◌, ◌^◌, ◌<◌, ◌≤◌, List, [], ◌∷◌, ◌++◌, map, length, take, drop, get_or, Bool, true, false, cond, ◌==◌, not, Some, None, refl, sym, ap, ◌∙◌, arith, add-one, length-drop, length-append, drop-drop}
use Rattle.std.proofs.Math.Seq.{drop-cons}
use Rattle.std.proofs.lemmas.Bool.{ne_eqb}
use Rattle.std.proofs.lemmas.Bool.Decides.{nat_tests}
use Rattle.std.proofs.lemmas.List.{drop-take, drop-append-le, length-take-le}
use Rattle.std.proofs.lemmas.List.Sums.{prefix_len-le-length}
use Rattle.std.proofs.lemmas.Nat.{pow_pos}
use Rattle.std.proofs.lemmas.Simd.{trailing_mask_l}
use Rattle.std.specs.List.{prefix_len}
use lib.Count.{count_trailing_zeros}
use lib.Lanes.{mask_l}
use Rattle.json_decimal.specs.Ascii.{decimal_point, digit_zero}
use Rattle.json_decimal.specs.Characters.{is_digit, is_e}
use Rattle.json_decimal.specs.Numbers.{is_other, after_digits, after_some_digits, after_minus, after_int, after_frac, after_sign, after_exp, after_number}
use Rattle.json_decimal.specs.Scan.{◌>>=◌}
use Rattle.json_decimal.proofs.Fronts.{ends_within, mask-drop, mask-push, ends_pushed}

abbrev before_other : List ℕ → ℕ
before_other = prefix_len (λ b. not (is_other b))

-- the byte here is a digit, or none
digit_unless_other : (b : ℕ) → is_digit b ≡ not (is_other b)
digit_unless_other b = grind (arith, nat_tests)

digits_by : (b : ℕ) (bs : List ℕ) (t : Bool) → is_digit b ≡ t → not (is_other b) ≡ t
    → after_digits bs ≡ drop (before_other bs) bs
    → after_digits (b ∷ bs) ≡ drop (before_other (b ∷ bs)) (b ∷ bs)
digits_by b bs true h k rest =
    let more : before_other (b ∷ bs) ≡ 1 + before_other bs =
    ap (λ t. cond t (1 + before_other bs) 0) k in
    let next : suc (before_other bs) ≡ before_other (b ∷ bs) = omega arith in
    ap (λ t. cond t (after_digits bs) (b ∷ bs)) h ∙ rest ∙ ap (λ (n : ℕ). drop n (b ∷ bs)) next
digits_by b bs false h k rest =
    let none : 0 ≡ before_other (b ∷ bs) = sym (ap (λ t. cond t (1 + before_other bs) 0) k) in
    ap (λ t. cond t (after_digits bs) (b ∷ bs)) h ∙ ap (λ (n : ℕ). drop n (b ∷ bs)) none

digits_are : (bs : List ℕ) → after_digits bs ≡ drop (before_other bs) bs
digits_are [] = refl
digits_are (b ∷ bs) = digits_by b bs (is_digit b) refl (sym (digit_unless_other b)) (digits_are bs)

-- where the mask of a block says that digits end which begin at a place of it
pub end_is : (bs : List ℕ) (others from n : ℕ) → 16 ≤ length bs → from ≤ 16
    → others ≡ mask_l (map is_other (take 16 bs ++ 0 ∷ []))
    → n ≡ count_trailing_zeros 64 (others / 2 ^ from)
    → (from + n ≤ 16) × (from + n < 16 → after_digits (drop from bs) ≡ drop (from + n) bs)
end_is bs others from n room within mask count =
    let sixteen : 16 ≡ from + (16 - from) = omega arith in
    let long : length (take 16 bs) ≡ 16 = length-take-le 16 bs room in
    let block : drop from (take 16 bs) ≡ take (16 - from) (drop from bs) =
    ap (λ (k : ℕ). drop from (take k bs)) sixteen ∙ drop-take from (16 - from) bs in
    let cut : drop from (take 16 bs ++ 0 ∷ []) ≡ take (16 - from) (drop from bs) ++ 0 ∷ [] =
    drop-append-le from (take 16 bs) (0 ∷ []) (omega arith)
    ∙ ap (λ (xs : List ℕ). xs ++ 0 ∷ []) block in
    let left : others / 2 ^ from ≡ mask_l
    (map is_other (take (16 - from) (drop from bs) ++ 0 ∷ [])) =
    ap (λ k. k / 2 ^ from) mask ∙ mask-drop is_other from (take 16 bs ++ 0 ∷ [])
    ∙ ap (λ (xs : List ℕ). mask_l (map is_other xs)) cut in
    let short : length (take (16 - from) (drop from bs)) ≡ 16 - from =
    length-take-le (16 - from) (drop from bs) (omega (arith, length-drop from bs)) in
    let some : 0 < mask_l (map is_other (take (16 - from) (drop from bs) ++ 0 ∷ [])) =
    omega (
      arith,
      mask-push is_other 0 (take (16 - from) (drop from bs)) refl,
      pow_pos
          (length (take (16 - from) (drop from bs))),
    ) in
    let is : n ≡ before_other (take (16 - from) (drop from bs)) =
    count ∙ ap (count_trailing_zeros 64) left
    ∙ trailing_mask_l is_other 64 (take (16 - from) (drop from bs) ++ 0 ∷ [])
    (omega (arith, length-append (take (16 - from) (drop from bs)) (0 ∷ []))) some
    ∙ ends_pushed is_other 0 (take (16 - from) (drop from bs)) refl in
    let most : before_other (take (16 - from) (drop from bs))
    ≤ length (take (16 - from) (drop from bs)) =
    prefix_len-le-length (λ b. not (is_other b)) (take (16 - from) (drop from bs)) in (
      omega arith,
      λ below.
          let whole : before_other (drop from bs) ≡ n =
          ends_within (λ b. not (is_other b)) (16 - from) (drop from bs)
          (omega (arith, length-drop from bs)) (omega arith) ∙ sym is in
          digits_are (drop from bs) ∙ ap (λ (k : ℕ). drop k (drop from bs)) whole
          ∙ drop-drop n from bs ∙ ap (λ (k : ℕ). drop k bs) (omega arith),
    )

-- digits that end further on are some
some_by : (b : ℕ) (bs : List ℕ) (t : Bool) (r : List ℕ) → is_digit b ≡ t → after_digits (b ∷ bs) ≡ r
    → length r < length (b ∷ bs) → after_some_digits (b ∷ bs) ≡ Some r
some_by b bs true r h e l =
    ap (λ t. cond t (Some (after_digits bs)) None) h
    ∙ ap Some (sym (ap (λ t. cond t (after_digits bs) (b ∷ bs)) h) ∙ e)
some_by b bs false r h e l =
    let same : b ∷ bs ≡ r = sym (ap (λ t. cond t (after_digits bs) (b ∷ bs)) h) ∙ e in
    absurd (omega (arith, ap length same))

some_digits : (bs r : List ℕ) → after_digits bs ≡ r → length r < length bs
    → after_some_digits bs ≡ Some r
some_digits [] r e l = absurd (omega arith)
some_digits (b ∷ bs) r e l = some_by b bs (is_digit b) r refl e l

-- the digits before a fraction, of which more than one don't begin with a zero
int_by : (b : ℕ) (bs : List ℕ) (r : List ℕ) (t : Bool) → (b == digit_zero) ≡ t
    → after_digits (b ∷ bs) ≡ r → length r < length (b ∷ bs) → (t ≡ true → r ≡ bs)
    → after_int (b ∷ bs) ≡ Some r
int_by b bs r true h e l alone =
    ap (λ t. cond t (Some bs) (after_some_digits (b ∷ bs))) h ∙ ap Some (sym (alone refl))
int_by b bs r false h e l alone =
    ap (λ t. cond t (Some bs) (after_some_digits (b ∷ bs))) h ∙ some_digits (b ∷ bs) r e l

pub int_is : (bs : List ℕ) (from end : ℕ) → from < end → end < length bs
    → ((get_or bs from 0 == digit_zero) ≡ true → end ≡ from + 1)
    → after_digits (drop from bs) ≡ drop end bs → after_int (drop from bs) ≡ Some (drop end bs)
int_is bs from end more within alone e =
    let here : drop from bs ≡ get_or bs from 0 ∷ drop (suc from) bs =
    drop-cons bs from 0 (omega arith) in
    let shorter : length (drop end bs) < length (get_or bs from 0 ∷ drop (suc from) bs) =
    omega (arith, length-drop end bs, length-drop (suc from) bs) in
    ap after_int here
    ∙ int_by (get_or bs from 0) (drop (suc from) bs) (drop end bs) (get_or bs from 0 == digit_zero)
    refl (sym (ap after_digits here) ∙ e) shorter
    (λ t. ap (λ (k : ℕ). drop k bs) (alone t ∙ add-one from))

-- a fraction
frac_is : (bs : List ℕ) (at end : ℕ) → at < length bs → get_or bs at 0 ≡ decimal_point
    → at + 1 < end → end < length bs
    → after_digits (drop (at + 1) bs) ≡ drop end bs → after_frac (drop at bs) ≡ Some (drop end bs)
frac_is bs at end room point more within e =
    let here : drop at bs ≡ get_or bs at 0 ∷ drop (suc at) bs = drop-cons bs at 0 room in
    ap after_frac here
    ∙ ap (λ (c : ℕ). cond (c == decimal_point) (after_some_digits (drop (suc at) bs))
    (Some (c ∷ drop (suc at) bs))) point
    ∙ some_digits (drop (suc at) bs) (drop end bs)
    (ap (λ (k : ℕ). after_digits (drop k bs)) (sym (add-one at)) ∙ e)
    (omega (arith, length-drop end bs, length-drop (suc at) bs))

frac_none : (bs : List ℕ) (at : ℕ) → at < length bs → (get_or bs at 0 ≡ decimal_point → ⊥)
    → after_frac (drop at bs) ≡ Some (drop at bs)
frac_none bs at room other =
    let here : drop at bs ≡ get_or bs at 0 ∷ drop (suc at) bs = drop-cons bs at 0 room in
    ap after_frac here
    ∙ ap (λ t. cond t (after_some_digits (drop (suc at) bs))
    (Some (get_or bs at 0 ∷ drop (suc at) bs))) (ne_eqb (get_or bs at 0) decimal_point other)
    ∙ ap Some (sym here)

-- no exponent
exp_none : (bs : List ℕ) (at : ℕ) → at < length bs → false ≡ is_e (get_or bs at 0)
    → after_exp (drop at bs) ≡ Some (drop at bs)
exp_none bs at room other =
    let here : drop at bs ≡ get_or bs at 0 ∷ drop (suc at) bs = drop-cons bs at 0 room in
    ap after_exp here
    ∙ ap (λ t. cond t (after_some_digits (after_sign (drop (suc at) bs)))
    (Some (get_or bs at 0 ∷ drop (suc at) bs))) (sym other)
    ∙ ap Some (sym here)

-- a number without a fraction, and one with a fraction
pub whole_is : (bs : List ℕ) (first end : ℕ) → end < length bs → after_minus bs ≡ drop first bs
    → after_int (drop first bs) ≡ Some (drop end bs)
    → (get_or bs end 0 ≡ decimal_point → ⊥) → false ≡ is_e (get_or bs end 0)
    → after_number bs ≡ Some (drop end bs)
whole_is bs first end room minus int point exp =
    ap (λ bs. after_int bs >>= λ bs. after_frac bs >>= λ bs. after_exp bs) minus
    ∙ ap (λ read. read >>= λ bs. after_frac bs >>= λ bs. after_exp bs) int
    ∙ ap (λ read. read >>= λ bs. after_exp bs) (frac_none bs end room point)
    ∙ exp_none bs end room exp

pub fraction_is : (bs : List ℕ) (first at end : ℕ) → end < length bs
    → after_minus bs ≡ drop first bs → after_int (drop first bs) ≡ Some (drop at bs)
    → get_or bs at 0 ≡ decimal_point → at < length bs → at + 1 < end
    → after_digits (drop (at + 1) bs) ≡ drop end bs
    → false ≡ is_e (get_or bs end 0) → after_number bs ≡ Some (drop end bs)
fraction_is bs first at end within minus int point room more digits exp =
    ap (λ bs. after_int bs >>= λ bs. after_frac bs >>= λ bs. after_exp bs) minus
    ∙ ap (λ read. read >>= λ bs. after_frac bs >>= λ bs. after_exp bs) int
    ∙ ap (λ read. read >>= λ bs. after_exp bs) (frac_is bs at end room point more within digits)
    ∙ exp_none bs end within exp
