-- The nodes that name a content are found by the content's number.
use Rattle.std.proofs.Common.{ℕ, zero, suc, ◌≡◌, ◌+◌, ◌-◌, ◌<◌, ◌≤◌, Bool, true, false, ◌&&◌, ◌||◌, Some, List, [], ◌∷◌, ◌++◌, drop, get_or, leb, length, ltb, map, take, refl, sym, ◌∙◌, ap, subst, arith, append_assoc, ◌⊎◌, inl, inr}
use Rattle.std.specs.Prelude.{All, IsPermutation, ◌==◌, bytes_eq, if◌then◌else◌, position, sum_by}
use Rattle.std.specs.List.{list_any, slice_get}
use Rattle.std.specs.List.Sorted.{IsNonDecreasing, IsNonDecreasingBy, IsPartitionPoint}
use Rattle.std.proofs.lemmas.Bool.{cases_lt, eq-eqb, eqb-false, eqb-true, leb-false, leb-true, ltb-false, ltb-true, ne_eqb}
use Rattle.std.proofs.lemmas.List.Elements.{All-append, All-head, All-map, All-nil, All-tail, All-weaker}
use Rattle.std.proofs.lemmas.List.{append-nil, get_or-map, length-map}
use Rattle.std.proofs.lemmas.List.Quantifiers.{position-Some}
use Rattle.std.proofs.lemmas.List.Sorted.{All-permutation, IsPermutation-refl, sum_by-IsPermutation}
use Rattle.std.proofs.lemmas.List.Sums.{sum_by-append, sum_by-cons}
use Rattle.std.proofs.lemmas.Slice.Eq.{bytes_eq-Decides}
use Rattle.cut_core.proofs.Bools.{or_true}
use Rattle.view_notes.specs.declared.name_pair.NamePair.{NamePair}
use Rattle.view_notes.specs.Index.{IsIndex, pair_of, pairs_of}
use Rattle.view_notes.specs.Names.{AreNumbered, IsNumber, Named, address_at, names_of}
use Rattle.view_notes.specs.Users.{AreUsers, times_in, times_of}
use Rattle.view_notes.proofs.Numbering.{none_at}

-- ---- how often a node names the content of this number

abbrev one_pair : ℕ → ℕ → NamePair → ℕ
one_pair k i p = if (p.content == k) && (p.user == i) then 1 else 0

abbrev count : ℕ → ℕ → List NamePair → ℕ
count k i ps = sum_by (one_pair k i) ps

abbrev one_if : Bool → ℕ
one_if b = if b then 1 else 0

other_content : (k i : ℕ) (p : NamePair) → (p.content ≡ k → ⊥) → one_pair k i p ≡ 0
other_content k i p ne =
    ap (λ b. one_if (b && (p.user == i))) (ne_eqb p.content k ne)

same_content : (k i : ℕ) (p : NamePair) → p.content ≡ k
    → one_pair k i p ≡ one_if (p.user == i)
same_content k i p e = ap (λ b. one_if (b && (p.user == i))) (eq-eqb p.content k e)

-- ---- a part of sorted pairs

abbrev users_in : List NamePair → List ℕ
users_in ps = map (λ p. p.user) ps

module _ (k i : ℕ) where
  none_counted : (ps : List NamePair)
      → ((j : ℕ) (d : NamePair) → j < length ps → (get_or ps j d).content ≡ k → ⊥)
      → count k i ps ≡ 0
  none_counted [] ne = refl
  none_counted (p ∷ ps) ne =
      omega (
        arith,
        sum_by-cons (one_pair k i) p ps,
        other_content k i p (ne 0 p (omega arith)),
        none_counted ps (λ j d lt. ne (suc j) d (omega (arith, lt))),
      )

  pub part_counted : (ps : List NamePair) (s n : ℕ)
      → ((j : ℕ) (d : NamePair) → j < s → (get_or ps j d).content ≡ k → ⊥)
      → ((j : ℕ) (d : NamePair) → s ≤ j → j < s + n → (get_or ps j d).content ≡ k)
      → ((j : ℕ) (d : NamePair) → s + n ≤ j → j < length ps → (get_or ps j d).content ≡ k → ⊥)
      → s + n ≤ length ps
      → times_in (take n (drop s (users_in ps))) i ≡ count k i ps
  part_counted [] zero zero before inside behind within = refl
  part_counted [] zero (suc n) before inside behind within = absurd (omega (arith, within))
  part_counted [] (suc s) n before inside behind within = absurd (omega (arith, within))
  part_counted (p ∷ ps) zero zero before inside behind within =
      sym (none_counted (p ∷ ps) (λ j d lt. behind j d (omega arith) lt))
  part_counted (p ∷ ps) zero (suc n) before inside behind within =
      omega (
        arith,
        sum_by-cons (one_pair k i) p ps,
        same_content k i p (inside 0 p (omega arith) (omega arith)),
        part_counted ps zero n (λ j d lt. absurd (omega (arith, lt)))
            (λ j d le lt. inside (suc j) d (omega arith) (omega (arith, lt)))
            (λ j d le lt. behind (suc j) d (omega (arith, le)) (omega (arith, lt)))
            (omega (arith, within)),
      )
  part_counted (p ∷ ps) (suc s) n before inside behind within =
      omega (
        arith,
        sum_by-cons (one_pair k i) p ps,
        other_content k i p (before 0 p (omega arith)),
        part_counted ps s n (λ j d lt. before (suc j) d (omega (arith, lt)))
            (λ j d le lt. inside (suc j) d (omega (arith, le)) (omega (arith, lt)))
            (λ j d le lt. behind (suc j) d (omega (arith, le)) (omega (arith, lt)))
            (omega (arith, within)),
      )

-- ---- the pairs of the nodes

node_counted : (k at i : ℕ) (ks : List ℕ)
    → count k i (map (pair_of at) ks) ≡ (if at == i then times_in ks k else 0)
node_counted k at i [] = by (at == i)
  where
    by : (b : Bool) → zero ≡ (if b then zero else zero)
    by true = refl
    by false = refl
node_counted k at i (x ∷ ks) =
    sum_by-cons (one_pair k i) (pair_of at x) (map (pair_of at) ks)
    ∙ ap (λ n. one_pair k i (pair_of at x) + n) (node_counted k at i ks)
    ∙ by (x == k) (at == i) (times_in ks k)
  where
    by : (b c : Bool) (n : ℕ)
        → one_if (b && c) + (if c then n else 0) ≡ (if c then one_if b + n else 0)
    by true true n = refl
    by true false n = refl
    by false true n = refl
    by false false n = refl

behind_counted : (k at i : ℕ) (kss : List (List ℕ)) → i < at → count k i (pairs_of at kss) ≡ 0
behind_counted k at i [] lt = refl
behind_counted k at i (ks ∷ kss) lt =
    let first : count k i (map (pair_of at) ks) ≡ 0 =
    node_counted k at i ks ∙ ap (λ b. if b then times_in ks k else 0)
    (ne_eqb at i (λ z. absurd (omega (arith, lt, z)))) in
    omega (
      arith,
      sum_by-append (one_pair k i) (map (pair_of at) ks) (pairs_of (at + 1) kss),
      first,
      behind_counted k (at + 1) i kss (omega (arith, lt)),
    )

-- a number that stands for the content's address is the content's
abbrev Tells : List (List ℕ) → List ℕ → ℕ → Type 0
Tells addresses a k =
    (x : ℕ) → IsNumber addresses x → bytes_eq a (address_at addresses x) ≡ (x == k)

times_told : (addresses : List (List ℕ)) (a : List ℕ) (k : ℕ) → Tells addresses a k
    → (ks : List ℕ) → All (IsNumber addresses) ks
    → times_in ks k ≡ times_of a (map (address_at addresses) ks)
times_told addresses a k tells [] h = refl
times_told addresses a k tells (x ∷ ks) h =
    ap (λ b. one_if b + times_in ks k)
    (sym (tells x (All-head (IsNumber addresses) x ks h)))
    ∙ ap (λ n. one_if (bytes_eq a (address_at addresses x)) + n)
    (times_told addresses a k tells ks (All-tail (IsNumber addresses) x ks h))

pub users_by : (addresses : List (List ℕ)) (a : List ℕ) (k : ℕ) → Tells addresses a k
    → (users : List ℕ) (at : ℕ) (kss : List (List ℕ))
    → All (λ ks. All (IsNumber addresses) ks) kss
    → ((i : ℕ) → at ≤ i → times_in users i ≡ count k i (pairs_of at kss))
    → AreUsers a users at (map (map (address_at addresses)) kss)
users_by addresses a k tells users at [] h e = tt
users_by addresses a k tells users at (ks ∷ kss) h e =
    let here : times_in users at ≡ times_in ks k =
    omega (
      arith,
      e at (omega arith),
      sum_by-append (one_pair k at) (map (pair_of at) ks) (pairs_of (at + 1) kss),
      node_counted k at at ks ∙ ap (λ b. if b then times_in ks k else 0) (eq-eqb at at refl),
      behind_counted k (at + 1) at kss (omega arith),
    ) in (
      here ∙ times_told addresses a k tells ks (All-head (All (IsNumber addresses)) ks kss h),
      users_by addresses a k tells users (at + 1) kss (All-tail (All (IsNumber addresses)) ks kss h)
          (λ i le. omega (
            arith,
            e i (omega (arith, le)),
            sum_by-append (one_pair k i) (map (pair_of at) ks) (pairs_of (at + 1) kss),
            node_counted k at i ks ∙ ap (λ b. if b then times_in ks k else 0)
                (ne_eqb at i (λ z. absurd (omega (arith, le, z)))),
          )),
    )

-- ---- the number of an address

pub tells : (addresses : List (List ℕ)) (a : List ℕ) (k : ℕ)
    → position (bytes_eq a) addresses ≡ Some k → Tells addresses a k
tells addresses a k e x number = by (x == k) refl
  where
    here : a ≡ address_at addresses k
    here =
        (bytes_eq-Decides a (address_at addresses k)).0
        (position-Some (bytes_eq a) addresses k [] e).1

    before : x < k → bytes_eq a (address_at addresses x) ≡ false
    before lt = (position-Some (bytes_eq a) addresses k [] e).2 x lt

    behind : (b : Bool) → bytes_eq a (address_at addresses x) ≡ b → k < x → b ≡ false
    behind true f lt =
        let same : address_at addresses x ≡ address_at addresses k =
        sym ((bytes_eq-Decides a (address_at addresses x)).0 f) ∙ here in
        let no : true ≡ false =
        sym ((bytes_eq-Decides (address_at addresses x) (address_at addresses k)).1 same)
        ∙ number.first k lt in cc
    behind false f lt = refl

    side : (x < k) ⊎ (k ≤ x) → (x ≡ k → ⊥) → bytes_eq a (address_at addresses x) ≡ false
    side (inl lt) ne = before lt
    side (inr le) ne =
        behind (bytes_eq a (address_at addresses x)) refl (omega arith)

    by : (b : Bool) → (x == k) ≡ b → bytes_eq a (address_at addresses x) ≡ b
    by true f =
        (bytes_eq-Decides a (address_at addresses x)).1
        (here ∙ ap (address_at addresses) (sym (eqb-true x k f)))
    by false f = side (cases_lt x k) (λ z. absurd (eqb-false x k f z))

-- nobody names an address that isn't there
times_none : (addresses : List (List ℕ)) (a : List ℕ) → list_any (bytes_eq a) addresses ≡ false
    → (ks : List ℕ) → All (IsNumber addresses) ks
    → 0 ≡ times_of a (map (address_at addresses) ks)
times_none addresses a none [] h = refl
times_none addresses a none (x ∷ ks) h =
    let number = All-head (IsNumber addresses) x ks h in
    let first : one_if (bytes_eq a (address_at addresses x)) ≡ 0 =
    ap one_if (none_at a addresses none x number.within) in
    let rest = times_none addresses a none ks (All-tail (IsNumber addresses) x ks h) in
    omega (arith, first, rest)

pub no_users : (addresses : List (List ℕ)) (a : List ℕ) → list_any (bytes_eq a) addresses ≡ false
    → (at : ℕ) (kss : List (List ℕ)) → All (λ ks. All (IsNumber addresses) ks) kss
    → AreUsers a [] at (map (map (address_at addresses)) kss)
no_users addresses a none at [] h = tt
no_users addresses a none at (ks ∷ kss) h = (
  times_none addresses a none ks (All-head (All (IsNumber addresses)) ks kss h),
  no_users addresses a none (at + 1) kss (All-tail (All (IsNumber addresses)) ks kss h),
)

-- the pairs' users are nodes
pub users_within : (at : ℕ) (kss : List (List ℕ))
    → All (λ p. p.user < at + length kss) (pairs_of at kss)
users_within at [] = All-nil (λ p. p.user < at + zero)
users_within at (ks ∷ kss) =
    let IsWithin : NamePair → Type 0 = λ p. p.user < at + length (ks ∷ kss) in
    let first : at < at + length (ks ∷ kss) = omega arith in
    All-append IsWithin (map (pair_of at) ks) (pairs_of (at + 1) kss)
    (All-map IsWithin (pair_of at) ks (λ j d lt. first))
    (All-weaker (λ (p : NamePair). p.user < (at + 1) + length kss) IsWithin
    (λ p lt. let up : (at + 1) + length kss ≡ at + length (ks ∷ kss) = omega arith in
    subst (λ n. p.user < n) up lt) (pairs_of (at + 1) kss) (users_within (at + 1) kss))

-- ---- one node more

pub pairs_next : (at : ℕ) (kss : List (List ℕ)) (ks : List ℕ)
    → pairs_of at (kss ++ ks ∷ []) ≡ pairs_of at kss ++ map (pair_of (at + length kss)) ks
pairs_next at [] ks =
    let none : at ≡ at + 0 = omega arith in
    append-nil (map (pair_of at) ks) ∙ ap (λ n. map (pair_of n) ks) none
pairs_next at (x ∷ kss) ks =
    let up : (at + 1) + length kss ≡ at + length (x ∷ kss) = omega arith in
    ap (λ ps. map (pair_of at) x ++ ps) (pairs_next (at + 1) kss ks
    ∙ ap (λ n. pairs_of (at + 1) kss ++ map (pair_of n) ks) up)
    ∙ sym (append_assoc (map (pair_of at) x) (pairs_of (at + 1) kss)
    (map (pair_of (at + length (x ∷ kss))) ks))

-- ---- the users of a content

content_at : (ps : List NamePair) (cs : List ℕ) → cs ≡ map (λ p. p.content) ps → (j : ℕ)
    (d : NamePair) → j < length ps → (get_or ps j d).content ≡ get_or cs j 0
content_at ps cs e j d lt = at_map ps j lt ∙ ap (λ xs. get_or xs j 0) (sym e)
  where
    at_map : (qs : List NamePair) (i : ℕ) → i < length qs
        → (get_or qs i d).content ≡ get_or (map (λ p. p.content) qs) i 0
    at_map [] i l = absurd (omega (arith, l))
    at_map (q ∷ qs) zero l = refl
    at_map (q ∷ qs) (suc i) l = at_map qs i (omega (arith, l))

module _ (names : Named) (contents users : List ℕ) (x : IsIndex names contents users)
    (a : List ℕ) (k s e : ℕ)
    (from : IsPartitionPoint (λ y. ltb y k ≡ true) (λ y. ltb y k ≡ false) contents s)
    (to : IsPartitionPoint (λ y. leb y k ≡ true) (λ y. leb y k ≡ false) contents e)
    (within : e ≤ length contents) where
  lesser : (j : ℕ) → j < s → get_or contents j 0 < k
  lesser j lt = ltb-true (get_or contents j 0) k (from.0 j 0 (omega arith) lt)

  no_lesser : (j : ℕ) → s ≤ j → j < length contents → k ≤ get_or contents j 0
  no_lesser j le lt = ltb-false (get_or contents j 0) k (from.1 j 0 le lt)

  no_greater : (j : ℕ) → j < e → get_or contents j 0 ≤ k
  no_greater j lt = leb-true (get_or contents j 0) k (to.0 j 0 (omega arith) lt)

  greater : (j : ℕ) → e ≤ j → j < length contents → k < get_or contents j 0
  greater j le lt = leb-false (get_or contents j 0) k (to.1 j 0 le lt)

  pub in_order : s ≤ length contents → s ≤ e
  in_order inside = by (cases_lt e s)
    where
      by : (e < s) ⊎ (s ≤ e) → s ≤ e
      by (inl lt) = absurd (omega (arith, lesser e lt, greater e (omega arith) (omega arith)))
      by (inr le) = le

  long : length contents ≡ length x.pairs
  long = ap length x.contents_are ∙ length-map x.pairs (λ p. p.content)

  pub found_users : s ≤ e → position (bytes_eq a) names.addresses ≡ Some k
      → AreUsers a (take (e - s) (drop s users)) 0 (names_of names)
  found_users le found =
      subst (λ us. AreUsers a (take (e - s) (drop s us)) 0 (names_of names)) (sym x.users_are)
      (users_by names.addresses a k (tells names.addresses a k found)
      (take (e - s) (drop s (users_in x.pairs))) 0 names.numbers x.numbered
      (λ i _. part_counted k i x.pairs s (e - s)
      (λ j d lt same. absurd (omega (
        arith,
        lesser j lt,
        content_at x.pairs contents x.contents_are j d (omega (arith, lt, le, within, long)),
        same,
      )))
      (λ j d from_s to_e. let at = content_at x.pairs contents x.contents_are j d
      (omega (arith, to_e, le, within, long)) in
      omega (
        arith,
        no_lesser j from_s (omega (arith, to_e, le, within)),
        no_greater j (omega (arith, to_e, le)),
        at,
      ))
      (λ j d from_e lt same. absurd (omega (
        arith,
        greater j (omega (arith, from_e, le)) (omega (arith, lt, long)),
        content_at x.pairs contents x.contents_are j d lt,
        same,
      )))
      (omega (arith, le, within, long))
      ∙ sum_by-IsPermutation (one_pair k i) (pairs_of 0 names.numbers) x.pairs x.same))

-- they are nodes
pub users_are_nodes : (names : Named) (contents users : List ℕ) → IsIndex names contents users
    → All (λ u. u < length names.numbers) users
users_are_nodes names contents users x =
    subst (λ us. All (λ u. u < length names.numbers) us) (sym x.users_are)
    (All-map (λ u. u < length names.numbers) (λ (p : NamePair). p.user) x.pairs
    (All-permutation (λ (p : NamePair). p.user < length names.numbers)
    (pairs_of 0 names.numbers) x.pairs x.same
    (let first : 0 + length names.numbers ≡ length names.numbers = omega arith in
    subst (λ n. All (λ (p : NamePair). p.user < n) (pairs_of 0 names.numbers)) first
    (users_within 0 names.numbers))))

-- ---- an index is made

pub no_index : (names : Named) (contents users : List ℕ) → names.numbers ≡ [] → contents ≡ []
    → users ≡ [] → IsIndex names contents users
no_index names contents users n c u = record {
  numbered =
      subst (λ kss. All (λ ks. All (IsNumber names.addresses) ks) kss) (sym n)
      (All-nil (All (IsNumber names.addresses)));
  pairs = [];
  same =
      subst (λ kss. IsPermutation (pairs_of 0 kss) []) (sym n) (IsPermutation-refl {X = NamePair} []);
  contents_are = c;
  users_are = u;
  sorted = subst IsNonDecreasing (sym c) (λ i j d le lt. absurd (omega (arith, lt)));
}

rises : (ps : List NamePair) → IsNonDecreasingBy (λ p. p.content) ps
    → IsNonDecreasing (map (λ p. p.content) ps)
rises ps h i j d le lt =
    let long = length-map ps (λ (p : NamePair). p.content) in
    let d' : NamePair = pair_of 0 d in
    omega (
      arith,
      h i j d' le (omega (arith, lt, long)),
      get_or-map (λ (p : NamePair). p.content) ps i d' d (omega (arith, le, lt, long)),
      get_or-map (λ (p : NamePair). p.content) ps j d' d (omega (arith, lt, long)),
    )

pub makes_index : (names : Named) (before pairs : List NamePair) (contents users : List ℕ)
    → AreNumbered names → before ≡ pairs_of 0 names.numbers → IsPermutation before pairs
    → IsNonDecreasingBy (λ p. p.content) pairs → contents ≡ map (λ p. p.content) pairs
    → users ≡ map (λ p. p.user) pairs → IsIndex names contents users
makes_index names before pairs contents users numbered e same sorted c u = record {
  numbered = numbered;
  pairs = pairs;
  same = subst (λ ps. IsPermutation ps pairs) e same;
  contents_are = c;
  users_are = u;
  sorted = subst IsNonDecreasing (sym c) (rises pairs sorted);
}

-- ---- what a node names

pub node_names : (n : Named) (node : ℕ) (ks : List ℕ) → slice_get n.numbers node ≡ Some ks
    → get_or (names_of n) node [] ≡ map (address_at n.addresses) ks
node_names n node ks e = by n.numbers node e
  where
    by : (kss : List (List ℕ)) (i : ℕ) → slice_get kss i ≡ Some ks
        → get_or (map (map (address_at n.addresses)) kss) i [] ≡ map (address_at n.addresses) ks
    by [] i f = cc
    by (x ∷ kss) zero f = let same : x ≡ ks = cc in ap (map (address_at n.addresses)) same
    by (x ∷ kss) (suc i) f = by kss i f

pub any_named : (p : List ℕ → Bool) (f : ℕ → List ℕ) (ks : List ℕ) (i : ℕ) → i < length ks
    → p (f (get_or ks i 0)) ≡ true → list_any p (map f ks) ≡ true
any_named p f [] i lt e = absurd (omega (arith, lt))
any_named p f (x ∷ ks) zero lt e = ap (λ b. b || list_any p (map f ks)) e
any_named p f (x ∷ ks) (suc i) lt e =
    ap (λ b. p (f x) || b) (any_named p f ks i (omega (arith, lt)) e) ∙ or_true (p (f x))
