-- Addresses by their numbers.
use Rattle.std.proofs.Common.{ℕ, zero, suc, ◌≡◌, ◌+◌, ◌-◌, ◌<◌, ◌≤◌, Bool, true, false, ◌||◌, Some, List, [], ◌∷◌, ◌++◌, drop, get_or, length, map, take, refl, sym, ◌∙◌, ap, subst, arith, append_assoc, length-append, length-drop}
use Rattle.std.specs.Prelude.{All, bytes_eq, position}
use Rattle.std.specs.List.{AllByRecursion, list_any}
use Rattle.std.proofs.lemmas.List.{append-nil, take_all}
use Rattle.std.proofs.lemmas.List.Elements.{All-append, All-nil, All-drop, All-map, All-push, All-take, All-weaker, recursion_from_All}
use Rattle.std.proofs.lemmas.List.Quantifiers.{position-Some}
use Rattle.std.proofs.lemmas.Slice.Eq.{bytes_eq-Decides}
use Rattle.view_notes.specs.declared.span.Span.{Span}
use Rattle.view_notes.specs.Names.{AddsNumbers, AreNames, IsNumber, IsSpan, address_at, numbers_in}

at_front : (xs ys : List (List ℕ)) (k : ℕ) → k < length xs
    → address_at (xs ++ ys) k ≡ address_at xs k
at_front [] ys k lt = absurd (omega (arith, lt))
at_front (x ∷ xs) ys zero lt = refl
at_front (x ∷ xs) ys (suc k) lt = at_front xs ys k (omega (arith, lt))

at_end : (xs : List (List ℕ)) (a : List ℕ) → address_at (xs ++ a ∷ []) (length xs) ≡ a
at_end [] a = refl
at_end (x ∷ xs) a = at_end xs a

pub number_grows : (xs ys : List (List ℕ)) (k : ℕ) → IsNumber xs k → IsNumber (xs ++ ys) k
number_grows xs ys k n = record {
  within = omega (arith, n.within, longer xs);
  first = λ j lt.
      ap (λ a. bytes_eq a (address_at (xs ++ ys) j)) (at_front xs ys k n.within)
      ∙ ap (bytes_eq (address_at xs k)) (at_front xs ys j (omega (arith, lt, n.within)))
      ∙ n.first j lt;
}
  where
    longer : (zs : List (List ℕ)) → length zs ≤ length (zs ++ ys)
    longer [] = omega arith
    longer (z ∷ zs) = omega (arith, longer zs)

pub same_address : (xs ys : List (List ℕ)) (k : ℕ) → IsNumber xs k
    → address_at (xs ++ ys) k ≡ address_at xs k
same_address xs ys k n = at_front xs ys k n.within

-- ---- the number of an address

found_address : (a : List ℕ) (xs : List (List ℕ)) (k : ℕ)
    → position (bytes_eq a) xs ≡ Some k → address_at xs k ≡ a
found_address a xs k e =
    sym ((bytes_eq-Decides a (address_at xs k)).0 (position-Some (bytes_eq a) xs k [] e).1)

pub found_is : (a : List ℕ) (xs : List (List ℕ)) (k : ℕ) → position (bytes_eq a) xs ≡ Some k
    → IsNumber xs k × (address_at xs k ≡ a)
found_is a xs k e =
    let p = position-Some (bytes_eq a) xs k [] e in
    let here = found_address a xs k e in (
      record { within = p.0; first = λ j lt. ap (λ b. bytes_eq b (address_at xs j)) here ∙ p.2 j lt },
      here,
    )

or_none : (b c : Bool) → (b || c) ≡ false → (b ≡ false) × (c ≡ false)
or_none true c e = cc
or_none false c e = (refl, e)

pub none_at : (a : List ℕ) (xs : List (List ℕ)) → list_any (bytes_eq a) xs ≡ false → (j : ℕ)
    → j < length xs → bytes_eq a (address_at xs j) ≡ false
none_at a [] e j lt = absurd (omega (arith, lt))
none_at a (x ∷ xs) e zero lt = (or_none (bytes_eq a x) (list_any (bytes_eq a) xs) e).0
none_at a (x ∷ xs) e (suc j) lt =
    none_at a xs (or_none (bytes_eq a x) (list_any (bytes_eq a) xs) e).1 j (omega (arith, lt))

pub new_is : (a : List ℕ) (xs : List (List ℕ)) → list_any (bytes_eq a) xs ≡ false
    → IsNumber (xs ++ a ∷ []) (length xs) × (address_at (xs ++ a ∷ []) (length xs) ≡ a)
new_is a xs e = (
  record {
    within = omega (arith, long xs);
    first = λ j lt.
        ap (λ b. bytes_eq b (address_at (xs ++ a ∷ []) j)) (at_end xs a)
        ∙ ap (bytes_eq a) (at_front xs (a ∷ []) j lt) ∙ none_at a xs e j lt;
  },
  at_end xs a,
)
  where
    long : (zs : List (List ℕ)) → length (zs ++ a ∷ []) ≡ length zs + 1
    long [] = refl
    long (z ∷ zs) = omega (arith, long zs)

-- ---- the numbers of all nodes

pub all_numbered : (addresses : List (List ℕ)) (numbers : List ℕ) (spans : List Span)
    → AreNames addresses numbers spans
    → All (λ ks. All (IsNumber addresses) ks) (map (numbers_in numbers) spans)
all_numbered addresses numbers spans h =
    All-map (λ ks. All (IsNumber addresses) ks) (numbers_in numbers) spans
    (λ k d lt. let s : Span = get_or spans k d in
    All-take (IsNumber addresses) (s.end - s.start) (drop s.start numbers)
    (All-drop (IsNumber addresses) s.start numbers h.numbers_are))

module _ (numbers more : List ℕ) where
  longer : (xs : List ℕ) → length xs ≤ length (xs ++ more)
  longer [] = omega arith
  longer (x ∷ xs) = omega (arith, longer xs)

  drop_front : (xs : List ℕ) (n : ℕ) → n ≤ length xs → drop n (xs ++ more) ≡ drop n xs ++ more
  drop_front xs zero le = refl
  drop_front [] (suc n) le = absurd (omega (arith, le))
  drop_front (x ∷ xs) (suc n) le = drop_front xs n (omega (arith, le))

  take_front : (xs : List ℕ) (n : ℕ) → n ≤ length xs → take n (xs ++ more) ≡ take n xs
  take_front xs zero le = refl
  take_front [] (suc n) le = absurd (omega (arith, le))
  take_front (x ∷ xs) (suc n) le = ap (λ ys. x ∷ ys) (take_front xs n (omega (arith, le)))

  -- a part of a list stays while the list grows
  part_same : (s : Span) → IsSpan (length numbers) s
      → numbers_in (numbers ++ more) s ≡ numbers_in numbers s
  part_same s h =
      ap (take (s.end - s.start)) (drop_front numbers s.start (omega (arith, h.0, h.1)))
      ∙ take_front (drop s.start numbers) (s.end - s.start)
      (omega (arith, length-drop s.start numbers, h.0, h.1))

map_same : {A B : Type 0} (f g : A → B) (xs : List A) → AllByRecursion (λ x. f x ≡ g x) xs
    → map f xs ≡ map g xs
map_same f g [] h = refl
map_same f g (x ∷ xs) h = ap (λ y. y ∷ map f xs) h.0 ∙ ap (λ ys. g x ∷ ys) (map_same f g xs h.1)

-- the addresses of the nodes stay while addresses and numbers grow
names_same : (addresses more_addresses : List (List ℕ)) (numbers more : List ℕ) (spans : List Span)
    → AreNames addresses numbers spans
    → map (map (address_at (addresses ++ more_addresses))) (map (numbers_in (numbers ++ more)) spans)
    ≡ map (map (address_at addresses)) (map (numbers_in numbers) spans)
names_same addresses more_addresses numbers more spans h =
    ap (map (map (address_at (addresses ++ more_addresses))))
    (map_same (numbers_in (numbers ++ more)) (numbers_in numbers) spans
    (recursion_from_All _ spans (λ k d lt. part_same numbers more (get_or spans k d)
    (h.spans_are k d lt))))
    ∙ map_same (map (address_at (addresses ++ more_addresses))) (map (address_at addresses))
    (map (numbers_in numbers) spans)
    (recursion_from_All _ (map (numbers_in numbers) spans)
    (All-weaker (λ ks. All (IsNumber addresses) ks) _
    (λ ks all. map_same (address_at (addresses ++ more_addresses)) (address_at addresses) ks
    (recursion_from_All _ ks (All-weaker (IsNumber addresses) _
    (λ k n. same_address addresses more_addresses k n) ks all)))
    (map (numbers_in numbers) spans) (all_numbered addresses numbers spans h)))

whole_part : (numbers more : List ℕ)
    → take (length (numbers ++ more) - length numbers) (drop (length numbers) (numbers ++ more))
    ≡ more
whole_part numbers more =
    ap (take (length (numbers ++ more) - length numbers)) (behind numbers)
    ∙ take_all (length (numbers ++ more) - length numbers) more
    (omega (arith, length-append numbers more))
  where
    behind : (xs : List ℕ) → drop (length xs) (xs ++ more) ≡ more
    behind [] = refl
    behind (x ∷ xs) = behind xs

map_end : {A B : Type 0} (f : A → B) (xs : List A) (x : A)
    → map f (xs ++ x ∷ []) ≡ map f xs ++ f x ∷ []
map_end f [] x = refl
map_end f (y ∷ xs) x = ap (λ ys. f y ∷ ys) (map_end f xs x)

-- ---- one node more

pub names_pushed : (addresses more_addresses : List (List ℕ)) (numbers more : List ℕ)
    (spans : List Span) (s : Span) (xs : List (List ℕ)) → AreNames addresses numbers spans
    → s.start ≡ length numbers → s.end ≡ length (numbers ++ more)
    → map (address_at (addresses ++ more_addresses)) more ≡ xs
    → map (map (address_at (addresses ++ more_addresses)))
    (map (numbers_in (numbers ++ more)) (spans ++ s ∷ []))
    ≡ map (map (address_at addresses)) (map (numbers_in numbers) spans) ++ xs ∷ []
names_pushed addresses more_addresses numbers more spans s xs h from to e =
    let all = addresses ++ more_addresses in
    let here : numbers_in (numbers ++ more) s ≡ more =
    ap (λ n. take (s.end - n) (drop n (numbers ++ more))) from
    ∙ ap (λ n. take (n - length numbers) (drop (length numbers) (numbers ++ more))) to
    ∙ whole_part numbers more in
    ap (map (map (address_at all))) (map_end (numbers_in (numbers ++ more)) spans s)
    ∙ map_end (map (address_at all)) (map (numbers_in (numbers ++ more)) spans)
    (numbers_in (numbers ++ more) s)
    ∙ ap (λ yss. yss ++ map (address_at all) (numbers_in (numbers ++ more) s) ∷ [])
    (names_same addresses more_addresses numbers more spans h)
    ∙ ap (λ ys. map (map (address_at addresses)) (map (numbers_in numbers) spans) ++ ys ∷ [])
    (ap (map (address_at all)) here ∙ e)

span_longer : (numbers more : List ℕ) (s : Span) → IsSpan (length numbers) s
    → IsSpan (length (numbers ++ more)) s
span_longer numbers more s h = (h.0, omega (arith, h.1, longer numbers more numbers))

pub names_grow : (addresses more_addresses : List (List ℕ)) (numbers more : List ℕ)
    (spans : List Span) → AreNames addresses numbers spans
    → All (IsNumber (addresses ++ more_addresses)) more
    → AreNames (addresses ++ more_addresses) (numbers ++ more) spans
names_grow addresses more_addresses numbers more spans h all = record {
  numbers_are =
      All-append (IsNumber (addresses ++ more_addresses)) numbers more
      (All-weaker (IsNumber addresses) (IsNumber (addresses ++ more_addresses))
      (λ k n. number_grows addresses more_addresses k n) numbers h.numbers_are) all;
  spans_are = All-weaker (IsSpan (length numbers)) (IsSpan (length (numbers ++ more)))
      (λ s i. span_longer numbers more s i) spans h.spans_are;
}

pub names_span : (addresses : List (List ℕ)) (numbers : List ℕ) (spans : List Span) (s : Span)
    → AreNames addresses numbers spans → IsSpan (length numbers) s
    → AreNames addresses numbers (spans ++ s ∷ [])
names_span addresses numbers spans s h here = record {
  numbers_are = h.numbers_are;
  spans_are = All-push (IsSpan (length numbers)) spans s h.spans_are here;
}

-- ---- numbers are added

pub adds_none : (addresses : List (List ℕ)) (numbers : List ℕ)
    → AddsNumbers addresses numbers addresses numbers []
adds_none addresses numbers = record {
  more_addresses = [];
  more = [];
  addresses = sym (append-nil addresses);
  numbers = sym (append-nil numbers);
  are = All-nil (IsNumber addresses);
  names = refl;
}

module _ (a0 : List (List ℕ)) (n0 : List ℕ) (a1 : List (List ℕ)) (n1 : List ℕ)
    (a2 : List (List ℕ)) (xs : List (List ℕ)) (more : List (List ℕ)) (grown : a2 ≡ a1 ++ more)
    (h : AddsNumbers a0 n0 a1 n1 xs) where
  still_are : All (IsNumber a2) h.more
  still_are =
      subst (λ ys. All (IsNumber ys) h.more) (sym grown)
      (All-weaker (IsNumber a1) (IsNumber (a1 ++ more)) (λ k n. number_grows a1 more k n) h.more
      h.are)

  still_names : map (address_at a2) h.more ≡ xs
  still_names =
      ap (λ ys. map (address_at ys) h.more) grown
      ∙ map_same (address_at (a1 ++ more)) (address_at a1) h.more
      (recursion_from_All _ h.more (All-weaker (IsNumber a1) _
      (λ k n. same_address a1 more k n) h.more h.are))
      ∙ h.names

  both_more : a2 ≡ a0 ++ (h.more_addresses ++ more)
  both_more =
      grown ∙ ap (λ ys. ys ++ more) h.addresses ∙ append_assoc a0 h.more_addresses more

  pub adds_addresses : (n2 : List ℕ) → n2 ≡ n1
      → (ys : List (List ℕ)) × AddsNumbers a0 n0 a2 n2 ys
  adds_addresses n2 same = (
    xs,
    record {
      more_addresses = h.more_addresses ++ more;
      more = h.more;
      addresses = both_more;
      numbers = same ∙ h.numbers;
      are = still_are;
      names = still_names;
    },
  )

  pub adds_number : (n2 : List ℕ) (k : ℕ) (a : List ℕ) (ys : List (List ℕ))
      → n2 ≡ n1 ++ k ∷ [] → IsNumber a2 k → address_at a2 k ≡ a → ys ≡ xs ++ a ∷ []
      → AddsNumbers a0 n0 a2 n2 ys
  adds_number n2 k a ys pushed is here whole = record {
    more_addresses = h.more_addresses ++ more;
    more = h.more ++ k ∷ [];
    addresses = both_more;
    numbers =
        pushed ∙ ap (λ ns. ns ++ k ∷ []) h.numbers ∙ append_assoc n0 h.more (k ∷ []);
    are = All-push (IsNumber a2) h.more k still_are is;
    names =
        map_end (address_at a2) h.more k ∙ ap (λ ys. ys ++ address_at a2 k ∷ []) still_names
        ∙ ap (λ x. xs ++ x ∷ []) here ∙ sym whole;
  }

module _ (a0 : List (List ℕ)) (n0 : List ℕ) (a1 : List (List ℕ)) (n1 : List ℕ)
    (xs : List (List ℕ)) (spans : List Span) (names : AreNames a0 n0 spans)
    (h : AddsNumbers a0 n0 a1 n1 xs) where
  pub names_added : AreNames a1 n1 spans
  names_added =
      let all = a0 ++ h.more_addresses in
      subst (λ ns. AreNames a1 ns spans) (sym h.numbers)
      (subst (λ ys. AreNames ys (n0 ++ h.more) spans) (sym h.addresses)
      (names_grow a0 h.more_addresses n0 h.more spans names
      (subst (λ ys. All (IsNumber ys) h.more) h.addresses h.are)))

  -- a node more, that names what was added
  pub names_next : (s : Span) → s.start ≡ length n0 → s.end ≡ length n1
      → map (map (address_at a1)) (map (numbers_in n1) (spans ++ s ∷ []))
      ≡ map (map (address_at a0)) (map (numbers_in n0) spans) ++ xs ∷ []
  names_next s from to =
      ap (λ ys. map (map (address_at ys)) (map (numbers_in n1) (spans ++ s ∷ []))) h.addresses
      ∙ ap (λ ns. map (map (address_at (a0 ++ h.more_addresses)))
      (map (numbers_in ns) (spans ++ s ∷ []))) h.numbers
      ∙ names_pushed a0 h.more_addresses n0 h.more spans s xs names from
      (to ∙ ap length h.numbers) (ap (λ ys. map (address_at ys) h.more) (sym h.addresses) ∙ h.names)

  pub span_added : (s : Span) → s.start ≡ length n0 → s.end ≡ length n1 → IsSpan (length n1) s
  span_added s from to =
      let long = ap length h.numbers ∙ length-append n0 h.more in
      (omega (arith, from, to, long), omega (arith, to))
