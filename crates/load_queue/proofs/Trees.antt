-- Ranks in a binary tree: the root has the first least one.
use Rattle.std.proofs.Common.{ℕ, ◌≡◌, ◌⊎◌, inl, inr, ◌+◌, ◌-◌, ◌*◌, ◌/◌, ◌<◌, ◌≤◌, true}
use Rattle.std.proofs.Common.{false, cond, nat_lt, List, length, map, drop, get_or, set}
use Rattle.std.proofs.Common.{refl, sym, ◌∙◌, ap, arith, zero, suc, ltb-true, ltb-false}
use Rattle.std.proofs.Common.{length-drop}
use Rattle.std.proofs.lemmas.List.{ext_get_or, get_or-drop}
use Rattle.std.proofs.lemmas.List.{length-map, length-set, map-set, drop-set-add}
use Rattle.std.proofs.Math.ListN as lists
use Rattle.load_queue.specs.declared.rank_at.RankAt.{RankAt}
use Rattle.load_queue.specs.Trees.{AreFilled, ArePlaced, IsFirstLeast}
use Rattle.load_queue.specs.Trees.{IsTree, first_of, node, ranks_in}

abbrev pub nowhere : RankAt
nowhere = record { rank = 0; place = 0 }

-- ---- which of two comes first

pub record ComesFirst (a b : RankAt) : Type 0 where
  pub no_more : a.rank ≤ b.rank
  pub earlier : a.rank ≡ b.rank → a.place ≤ b.place

comes_itself : (a : RankAt) → ComesFirst a a
comes_itself a = record { no_more = omega arith; earlier = λ _. omega arith }

comes_then : (a b c : RankAt) → ComesFirst a b → ComesFirst b c → ComesFirst a c
comes_then a b c p q = record {
  no_more = omega (arith, p.no_more, q.no_more);
  earlier = λ e.
      let first : a.rank ≡ b.rank = omega (arith, p.no_more, q.no_more, e) in
      let second : b.rank ≡ c.rank = omega (arith, p.no_more, q.no_more, e) in
      omega (arith, p.earlier first, q.earlier second);
}

-- a later place only comes first by its rank
comes_less : (a b : RankAt) → ComesFirst a b → b.place < a.place → a.rank < b.rank
comes_less a b p later =
    elim (nat_lt a.rank b.rank) as (λ r. nat_lt a.rank b.rank ≡ r → a.rank < b.rank) [
      | true ↦ λ h. ltb-true _ _ h
      | false ↦ λ h.
          let more = ltb-false _ _ h in
          let same : a.rank ≡ b.rank = omega (arith, p.no_more) in
          absurd (omega (arith, p.earlier same))
    ] refl

abbrev IsOneOf : RankAt → RankAt → RankAt → Type 0
IsOneOf x a b = ((x ≡ a) × ComesFirst a b) ⊎ ((x ≡ b) × ComesFirst b a)

first_is : (a b : RankAt) → IsOneOf (first_of a b) a b
first_is a b =
    elim (nat_lt b.rank a.rank) as (λ r. nat_lt b.rank a.rank ≡ r
    → IsOneOf (cond r b (cond (nat_lt a.rank b.rank) a (cond (nat_lt b.place a.place) b a))) a b) [
      | true ↦ λ h.
          let less = ltb-true _ _ h in
          inr (refl, record { no_more = omega arith; earlier = λ e. omega arith })
      | false ↦ λ h. alike (ltb-false _ _ h)
    ] refl
  where
    placed : b.rank ≤ a.rank → a.rank ≤ b.rank → IsOneOf (cond (nat_lt b.place a.place) b a) a b
    placed p q =
        elim (nat_lt b.place a.place) as (λ r. nat_lt b.place a.place ≡ r
        → IsOneOf (cond r b a) a b) [
          | true ↦ λ h.
              let less = ltb-true _ _ h in
              inr (refl, record { no_more = p; earlier = λ e. omega arith })
          | false ↦ λ h.
              let more = ltb-false _ _ h in
              inl (refl, record { no_more = q; earlier = λ e. omega arith })
        ] refl

    alike : a.rank ≤ b.rank
        → IsOneOf (cond (nat_lt a.rank b.rank) a (cond (nat_lt b.place a.place) b a)) a b
    alike q =
        elim (nat_lt a.rank b.rank) as (λ r. nat_lt a.rank b.rank ≡ r
        → IsOneOf (cond r a (cond (nat_lt b.place a.place) b a)) a b) [
          | true ↦ λ h.
              let less = ltb-true _ _ h in
              inl (refl, record { no_more = q; earlier = λ e. omega arith })
          | false ↦ λ h. placed (ltb-false _ _ h) q
        ] refl

of_left : (x a b : RankAt) → IsOneOf x a b → ComesFirst x a
of_left x a b (inl p) = rw p.0 (comes_itself a)
of_left x a b (inr p) = rw p.0 p.1

of_right : (x a b : RankAt) → IsOneOf x a b → ComesFirst x b
of_right x a b (inl p) = rw p.0 p.1
of_right x a b (inr p) = rw p.0 (comes_itself b)

-- ---- the root

half_of : (i : ℕ) → (i ≡ 2 * (i / 2)) ⊎ (i ≡ 2 * (i / 2) + 1)
half_of i =
    elim (nat_lt (2 * (i / 2)) i) as (λ r. nat_lt (2 * (i / 2)) i ≡ r
    → (i ≡ 2 * (i / 2)) ⊎ (i ≡ 2 * (i / 2) + 1)) [
      | true ↦ λ h. let less = ltb-true _ _ h in inr (omega arith)
      | false ↦ λ h. let more = ltb-false _ _ h in inl (omega arith)
    ] refl

module _ (count : ℕ) (ns : List RankAt) (filled : AreFilled count ns) where
  of_below : (j : ℕ) → 0 < j → j < count
      → IsOneOf (node ns j) (node ns (2 * j)) (node ns (2 * j + 1))
  of_below j some within =
      rw (filled j some within) (first_is (node ns (2 * j)) (node ns (2 * j + 1)))

  -- no node comes before the root
  root_comes_first : (fuel i : ℕ) → i ≤ fuel → 0 < i → i < 2 * count
      → ComesFirst (node ns 1) (node ns i)
  root_comes_first zero i enough some within = absurd (omega arith)
  root_comes_first (suc fuel) i enough some within =
      elim (nat_lt 1 i) as (λ r. nat_lt 1 i ≡ r → ComesFirst (node ns 1) (node ns i)) [
        | true ↦ λ h. above (ltb-true _ _ h) (root_comes_first fuel (i / 2))
        | false ↦ λ h.
            let more = ltb-false _ _ h in
            let one : i ≡ 1 = omega arith in
            rw one (comes_itself (node ns 1))
      ] refl
    where
      above : 1 < i
          → (i / 2 ≤ fuel → 0 < i / 2 → i / 2 < 2 * count
          → ComesFirst (node ns 1) (node ns (i / 2)))
          → ComesFirst (node ns 1) (node ns i)
      above more higher =
          let over : 0 < i / 2 = omega arith in
          let under : i / 2 < count = omega arith in
          let both = of_below (i / 2) over under in
          comes_then (node ns 1) (node ns (i / 2)) (node ns i)
          (higher (omega arith) over (omega arith))
          (elim (half_of i) [
            | inl e ↦ rw (ap (node ns) e) (of_left _ _ _ both)
            | inr e ↦ rw (ap (node ns) e) (of_right _ _ _ both)
          ])

  -- each node has what some leaf has
  comes_from_leaf : (fuel i : ℕ) → 2 * count ≤ i + fuel → 0 < i → i < 2 * count
      → (q : ℕ) × (q < count) × (node ns i ≡ node ns (count + q))
  comes_from_leaf zero i enough some within = absurd (omega arith)
  comes_from_leaf (suc fuel) i enough some within =
      elim (nat_lt i count) as (λ r. nat_lt i count ≡ r
      → (q : ℕ) × (q < count) × (node ns i ≡ node ns (count + q))) [
        | true ↦ λ h. inner (ltb-true _ _ h) (comes_from_leaf fuel)
        | false ↦ λ h.
            let more = ltb-false _ _ h in
            let same : i ≡ count + (i - count) = omega arith in
            (i - count, omega arith, ap (node ns) same)
      ] refl
    where
      inner : i < count
          → ((j : ℕ) → 2 * count ≤ j + fuel → 0 < j → j < 2 * count
          → (q : ℕ) × (q < count) × (node ns j ≡ node ns (count + q)))
          → (q : ℕ) × (q < count) × (node ns i ≡ node ns (count + q))
      inner less below =
          elim (of_below i some less) [
            | inl p ↦
                let leaf = below (2 * i) (omega arith) (omega arith) (omega arith) in
                (leaf.0, leaf.1, p.0 ∙ leaf.2)
            | inr p ↦
                let leaf =
                below (2 * i + 1) (omega arith) (omega arith) (omega arith) in
                (leaf.0, leaf.1, p.0 ∙ leaf.2)
          ]

-- ---- the ranks at the leaves

pub rank_at_leaf : (count : ℕ) (ns : List RankAt) (q : ℕ)
    → get_or (ranks_in count ns) q 0 ≡ (node ns (count + q)).rank
rank_at_leaf count ns q =
    lists.get_or-map (λ n. n.rank) (drop count ns) q nowhere
    ∙ ap (λ n. n.rank) (get_or-drop count ns q nowhere)

pub length_of_ranks : (count : ℕ) (ns : List RankAt) → length ns ≡ 2 * count
    → length (ranks_in count ns) ≡ count
length_of_ranks count ns len =
    length-map (drop count ns) (λ n. n.rank) ∙ omega (arith, length-drop count ns, len)

pub root_is_first : (count : ℕ) (ns : List RankAt) → IsTree count ns → 0 < count
    → IsFirstLeast (ranks_in count ns) (node ns 1).rank (node ns 1).place
root_is_first count ns tree some =
    let leaf =
    comes_from_leaf count ns tree.filled (2 * count) 1 (omega arith) (omega arith) (omega arith) in
    let place : (node ns 1).place ≡ leaf.0 = ap (λ n. n.place) leaf.2 ∙ tree.places leaf.0 leaf.1 in
    let len = length_of_ranks count ns tree.len in
    let comes : (k : ℕ) → k < count → ComesFirst (node ns 1) (node ns (count + k)) =
    λ k h. root_comes_first count ns tree.filled (count + k) (count + k) (omega arith)
    (omega arith) (omega arith)
    in record {
      within = omega (arith, place, len, leaf.1);
      is =
          ap (λ q. get_or (ranks_in count ns) q 0) place ∙ rank_at_leaf count ns leaf.0
          ∙ ap (λ n. n.rank) (sym leaf.2);
      least = λ k h. rw (rank_at_leaf count ns k) (comes k (omega (arith, len, h))).no_more;
      first = λ k h.
          let under : k < count = omega (arith, h, place, leaf.1) in
          let first = comes k under in
          let at = tree.places k under in
          rw (rank_at_leaf count ns k)
          (comes_less (node ns 1) (node ns (count + k)) first (omega (arith, h, at, place)));
    }

-- ---- whole trees

-- the ranks are those at the leaves
pub ranks_agree : (count : ℕ) (ns : List RankAt) (ranks : List ℕ) → length ns ≡ 2 * count
    → length ranks ≡ count
    → ((q : ℕ) → q < count → (node ns (count + q)).rank ≡ get_or ranks q 0)
    → ranks_in count ns ≡ ranks
ranks_agree count ns ranks len many leaves =
    let same = length_of_ranks count ns len in
    ext_get_or 0 (ranks_in count ns) ranks (same ∙ sym many)
    (λ q h. rank_at_leaf count ns q ∙ leaves q (omega (arith, same, h)))

-- a leaf is set
pub ranks_set : (count place rank : ℕ) (ns ms : List RankAt) → length ns ≡ 2 * count
    → length ms ≡ length ns
    → ((q : ℕ) → count ≤ q
    → node ms q ≡ node (set ns (count + place) (record { rank = rank; place = place })) q)
    → ranks_in count ms ≡ set (ranks_in count ns) place rank
ranks_set count place rank ns ms len same leaves =
    ap (map (λ n. n.rank)) (drops_agree ms
    (set ns (count + place) (record { rank = rank; place = place }))
    (same ∙ sym (length-set ns (count + place) (record { rank = rank; place = place }))) leaves)
    ∙ ap (map (λ n. n.rank)) (drop-set-add count ns place (record { rank = rank; place = place }))
    ∙ map-set (λ n. n.rank) (drop count ns) place (record { rank = rank; place = place })
  where
    drops_agree : (xs ys : List RankAt) → length xs ≡ length ys
        → ((q : ℕ) → count ≤ q → node xs q ≡ node ys q) → drop count xs ≡ drop count ys
    drops_agree xs ys e leaves =
        ext_get_or nowhere (drop count xs) (drop count ys)
        (length-drop count xs ∙ ap (λ n. n - count) e ∙ sym (length-drop count ys))
        (λ q h. get_or-drop count xs q nowhere ∙ leaves (count + q) (omega arith)
        ∙ sym (get_or-drop count ys q nowhere))

-- a tree that is built over its leaves
pub tree_built : (ranks : List ℕ) (before pushed ns : List RankAt) → length before ≡ length ranks
    → ArePlaced before ranks pushed → length ns ≡ length pushed
    → ((q : ℕ) → length ranks ≤ q → node ns q ≡ node pushed q)
    → AreFilled (length ranks) ns
    → IsTree (length ranks) ns × (ranks_in (length ranks) ns ≡ ranks)
tree_built ranks before pushed ns many placed len leaves filled =
    let whole : length ns ≡ 2 * length ranks = omega (arith, len, placed.len, many) in
    let at : (q : ℕ) → q < length ranks
    → node ns (length ranks + q) ≡ record { rank = get_or ranks q 0; place = q } =
    λ q h. leaves (length ranks + q) (omega arith)
    ∙ ap (λ n. node pushed (n + q)) (sym many) ∙ placed.leaves q h in (
      record {
        len = whole;
        places = λ q h. ap (λ n. n.place) (at q h);
        filled = filled;
      },
      ranks_agree (length ranks) ns ranks whole refl (λ q h. ap (λ n. n.rank) (at q h)),
    )
