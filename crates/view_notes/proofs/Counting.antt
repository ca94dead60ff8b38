-- How many elements of a list pass a test.
use Rattle.std.proofs.Common.{ℕ, ◌≡◌, ◌+◌, ◌≤◌, Bool, true, false, not, ◌&&◌, ◌||◌, cond, List, [], ◌∷◌, length, refl, sym, ◌∙◌, ap, arith}
use Rattle.std.specs.Prelude.{◌==◌, if◌then◌else◌, bytes_eq}
use Rattle.std.specs.List.{list_all, filter}
use Rattle.std.proofs.lemmas.Bool.{eqb-false, eq-eqb, ne_eqb, eqb-true}
use Rattle.cut_core.specs.Cut.{is_empty}
use Rattle.view_notes.specs.Users.{times_of}
use Rattle.view_notes.proofs.Lists.{filter_yes, filter_no}

pub empty_length : {A : Type 0} (xs : List A) → is_empty xs ≡ (length xs == 0)
empty_length [] = refl
empty_length (x ∷ xs) = sym (ne_eqb (length (x ∷ xs)) 0 (λ z. absurd (omega (arith, z))))

pub count_yes : {A : Type 0} (p : A → Bool) (x : A) (xs : List A) → p x ≡ true
    → length (filter p (x ∷ xs)) ≡ length (filter p xs) + 1
count_yes p x xs e = omega (arith, ap length (filter_yes p x xs e))

pub count_no : {A : Type 0} (p : A → Bool) (x : A) (xs : List A) → p x ≡ false
    → length (filter p (x ∷ xs)) ≡ length (filter p xs)
count_no p x xs e = ap length (filter_no p x xs e)

pub filter_few : {A : Type 0} (p : A → Bool) (xs : List A) → length (filter p xs) ≤ length xs
filter_few p [] = omega arith
filter_few p (x ∷ xs) = by (p x) (filter_few p xs)
  where
    by : (b : Bool) → length (filter p xs) ≤ length xs
        → length (cond b (x ∷ filter p xs) (filter p xs)) ≤ length (x ∷ xs)
    by true few = omega (arith, few)
    by false few = omega (arith, few)

same_test : (a b c d : ℕ) → a ≡ c + 1 → b ≡ d + 1 → (c == d) ≡ (a == b)
same_test a b c d e f = by (c == d) refl
  where
    by : (t : Bool) → (c == d) ≡ t → (c == d) ≡ (a == b)
    by true h = h ∙ sym (eq-eqb a b (omega (arith, e, f, eqb-true c d h)))
    by false h = h ∙ sym (ne_eqb a b (λ z. eqb-false c d h (omega (arith, e, f, z))))

-- all pass where as many pass as there are
pub all_count : {A : Type 0} (p : A → Bool) (xs : List A)
    → list_all p xs ≡ (length (filter p xs) == length xs)
all_count p [] = refl
all_count p (x ∷ xs) = by (p x) refl (all_count p xs)
  where
    one_more : length (x ∷ xs) ≡ length xs + 1
    one_more = omega arith

    by : (b : Bool) → p x ≡ b → list_all p xs ≡ (length (filter p xs) == length xs)
        → list_all p (x ∷ xs) ≡ (length (filter p (x ∷ xs)) == length (x ∷ xs))
    by true e rest =
        ap (λ b. b && list_all p xs) e ∙ rest
        ∙ same_test (length (filter p (x ∷ xs))) (length (x ∷ xs)) (length (filter p xs))
        (length xs) (count_yes p x xs e) one_more
    by false e rest =
        ap (λ b. b && list_all p xs) e
        ∙ sym (ne_eqb (length (filter p (x ∷ xs))) (length (x ∷ xs))
        (λ z. absurd (omega (arith, z, count_no p x xs e, filter_few p xs))))

-- all pass where none fails
pub none_count : {A : Type 0} (p : A → Bool) (xs : List A)
    → list_all p xs ≡ (length (filter (λ y. not (p y)) xs) == 0)
none_count p [] = refl
none_count p (x ∷ xs) = by (p x) refl (none_count p xs)
  where
    by : (b : Bool) → p x ≡ b → list_all p xs ≡ (length (filter (λ y. not (p y)) xs) == 0)
        → list_all p (x ∷ xs) ≡ (length (filter (λ y. not (p y)) (x ∷ xs)) == 0)
    by true e rest =
        ap (λ b. b && list_all p xs) e ∙ rest
        ∙ ap (λ n. n == 0) (sym (count_no (λ y. not (p y)) x xs (ap not e)))
    by false e rest =
        ap (λ b. b && list_all p xs) e
        ∙ sym (ne_eqb (length (filter (λ y. not (p y)) (x ∷ xs))) 0
        (λ z. absurd (omega (arith, z, count_yes (λ y. not (p y)) x xs (ap not e)))))

abbrev one_if : List ℕ → List ℕ → ℕ
one_if a x = if bytes_eq a x then 1 else 0

-- one test passes what another passes, and one content
pub one_content_more : (p q : List ℕ → Bool) (a : List ℕ)
    → ((x : List ℕ) → q x ≡ (bytes_eq a x || p x))
    → ((x : List ℕ) → bytes_eq a x ≡ true → p x ≡ false) → (xs : List (List ℕ))
    → length (filter q xs) ≡ length (filter p xs) + times_of a xs
one_content_more p q a more apart [] = omega arith
one_content_more p q a more apart (x ∷ xs) =
    by (bytes_eq a x) (p x) refl refl (one_content_more p q a more apart xs)
  where
    by : (s b : Bool) → bytes_eq a x ≡ s → p x ≡ b
        → length (filter q xs) ≡ length (filter p xs) + times_of a xs
        → length (filter q (x ∷ xs)) ≡ length (filter p (x ∷ xs)) + times_of a (x ∷ xs)
    by true b e f rest =
        let counts : one_if a x ≡ 1 = ap (λ c. if c then 1 else 0) e in
        omega (
          arith,
          rest,
          counts,
          count_yes q x xs (more x ∙ ap (λ c. c || p x) e),
          count_no p x xs (apart x e),
        )
    by false true e f rest =
        let counts : one_if a x ≡ 0 = ap (λ c. if c then 1 else 0) e in
        omega (
          arith,
          rest,
          counts,
          count_yes q x xs (more x ∙ ap (λ c. c || p x) e ∙ f),
          count_yes p x xs f,
        )
    by false false e f rest =
        let counts : one_if a x ≡ 0 = ap (λ c. if c then 1 else 0) e in
        omega (
          arith,
          rest,
          counts,
          count_no q x xs (more x ∙ ap (λ c. c || p x) e ∙ f),
          count_no p x xs f,
        )
