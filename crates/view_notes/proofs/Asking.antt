-- What a view wants, by its notes.
use Rattle.std.proofs.Common.{ℕ, zero, suc, ◌≡◌, ◌+◌, ◌<◌, ◌≤◌, Bool, true, false, not, ◌&&◌, ◌||◌, Option, Some, None, List, [], ◌∷◌, ◌++◌, length, map, take, refl, sym, ◌∙◌, ap, subst, arith, length-append}
use Rattle.std.specs.Prelude.{if◌then◌else◌, fold, is_some, nat_le, nat_lt}
use Rattle.std.specs.List.{filter, flat_map, list_all, slice_get}
use Rattle.std.specs.Option.{option_map}
use Rattle.std.proofs.lemmas.Bool.{eq-eqb, ltb-false}
use Rattle.std.proofs.lemmas.Grind.{fold-append}
use Rattle.std.proofs.lemmas.List.{length-map, take_all}
use Rattle.std.proofs.lemmas.Option.{slice_get-map}
use Rattle.tile_types.specs.declared.key.Key.{Key}
use Rattle.tile_types.specs.declared.want.Want.{Want}
use Rattle.tile_types.specs.Wants.{Ranks}
use Rattle.error_test.specs.Views.{ViewParts}
use Rattle.expanded_tree.specs.Tree.{Tree, addresses_of, key_of}
use Rattle.cut_core.specs.declared.findings.TheConstants.{VISITED_LIMIT}
use Rattle.cut_core.specs.Cut.{Holdings, adds, is_empty, is_pending, own_contents, wants}
use Rattle.cut_core.specs.Distances.{Measured, measured_visits, trees_in}
use Rattle.cut_core.specs.Linked.{Linked, linked_visits}
use Rattle.cut_core.specs.Visits.{content_key, keeps_own, visits}
use Rattle.cut_core.specs.Wants.{is_missing, key_list, missing_contents, ranks_of, want_with, wants_of, with_want}
use Rattle.cut_core.proofs.CutSteps.{some_key}
use Rattle.cut_core.proofs.Distances.{trees_visited}
use Rattle.cut_core.proofs.Lists.{flat_taken}
use Rattle.cut_core.proofs.Wanting.{none_missing, wants_none, wants_pending, wants_tile}
use Rattle.view_notes.specs.declared.note.Note.{Note}
use Rattle.view_notes.specs.declared.note.Role.TheVariants.{Pending, Leaf, Adding, Replacing}
use Rattle.view_notes.specs.Asking.{AddsWantsOf, AddsWishes, AreNotesOfEach, CountsWaiting, IsNodeAt, TellsWanted, TellsWantedBy, keys_at, lacks_some, noted_at, waits, waits_by}
use Rattle.view_notes.specs.Follows.{AreNotesOf, Noted, ranks}
use Rattle.view_notes.specs.Notes.{is_kept, note_of}
use Rattle.view_notes.specs.Views.{noted, wishes}
use Rattle.view_notes.proofs.Counting.{all_count, filter_few}
use Rattle.view_notes.proofs.Keeping.{kept_is}
use Rattle.view_notes.proofs.TreeNotes.{trees_noted}
use Rattle.view_notes.proofs.Views.{wanted_once}

-- ---- places in lists

some_at : {A : Type 0} (xs : List A) (i : ℕ) → i < length xs
    → (x : A) × (slice_get xs i ≡ Some x)
some_at [] i lt = absurd (omega (arith, lt))
some_at (x ∷ xs) zero lt = (x, refl)
some_at (x ∷ xs) (suc i) lt = some_at xs i (omega (arith, lt))

record IsFrom {A B : Type 0} (f : A → B) (xs : List A) (i : ℕ) (y : B) : Type 0 where
  from : A
  here : slice_get xs i ≡ Some from
  same : f from ≡ y

is_from : {A B : Type 0} (f : A → B) (xs : List A) (i : ℕ) (y : B)
    → slice_get (map f xs) i ≡ Some y → IsFrom f xs i y
is_from f [] i y e = cc
is_from f (x ∷ xs) zero y e =
    let same : f x ≡ y = cc in record { from = x; here = refl; same = same }
is_from f (x ∷ xs) (suc i) y e =
    let rest = is_from f xs i y e in
    record { from = rest.from; here = rest.here; same = rest.same }

get_behind : {A : Type 0} (ys zs : List A) (j : ℕ)
    → slice_get (ys ++ zs) (length ys + j) ≡ slice_get zs j
get_behind [] zs j = let same : 0 + j ≡ j = omega arith in ap (slice_get zs) same
get_behind (y ∷ ys) zs j =
    let same : length (y ∷ ys) + j ≡ suc (length ys + j) = omega arith in
    ap (slice_get (y ∷ (ys ++ zs))) same ∙ get_behind ys zs j

piece_at : {A B : Type 0} (f : A → List B) (xs : List A) (i : ℕ) (x : A) (y : B)
    → slice_get xs i ≡ Some x → f x ≡ y ∷ []
    → slice_get (flat_map f xs) (length (flat_map f (take i xs))) ≡ Some y
piece_at f [] i x y e h = cc
piece_at f (z ∷ xs) zero x y e h =
    let same : z ≡ x = cc in
    ap (λ ys. slice_get (ys ++ flat_map f xs) 0) (ap f same ∙ h)
piece_at f (z ∷ xs) (suc i) x y e h =
    ap (slice_get (f z ++ flat_map f xs)) (length-append (f z) (flat_map f (take i xs)))
    ∙ get_behind (f z) (flat_map f xs) (length (flat_map f (take i xs)))
    ∙ piece_at f xs i x y e h

mapped_by : {A B : Type 0} (f : A → B) (b : Bool) (xs : List A)
    → map f (if b then xs else []) ≡ (if b then map f xs else [])
mapped_by f true xs = refl
mapped_by f false xs = refl

flat_by : {A B : Type 0} (f : A → List B) (b : Bool) (xs : List A)
    → flat_map f (if b then xs else []) ≡ (if b then flat_map f xs else [])
flat_by f true xs = refl
flat_by f false xs = refl

flat-map : {A B C : Type 0} (f : B → List C) (g : A → B) (xs : List A)
    → flat_map f (map g xs) ≡ flat_map (λ x. f (g x)) xs
flat-map f g [] = refl
flat-map f g (x ∷ xs) = ap (λ ys. f (g x) ++ ys) (flat-map f g xs)

-- ---- the noted nodes, with their distances

module _ (view : ViewParts) (root : Option Tree) where
  abbrev few : Bool
  few = nat_le (length (visits view root)) VISITED_LIMIT

  trees_at : trees_in (noted_at view root) ≡ noted view root
  trees_at =
      mapped_by (λ (m : Measured). m.tree) few (measured_visits view root)
      ∙ ap (λ ts. if few then ts else []) (trees_visited view root)

  ranks_at : map ranks_of (noted_at view root) ≡ ranks view root
  ranks_at = mapped_by ranks_of few (measured_visits view root)

  keys_noted : keys_at (noted_at view root) ≡ flat_map (λ t. key_list (key_of t)) (noted view root)
  keys_noted =
      sym (flat-map (λ t. key_list (key_of t)) (λ (m : Measured). m.tree) (noted_at view root))
      ∙ ap (flat_map (λ t. key_list (key_of t))) trees_at

  module _ (holdings : Holdings) where
    abbrev wish : Measured → List Want
    wish m = wants_of holdings (keeps_own view holdings m.tree) m

    wishes_at : flat_map wish (noted_at view root) ≡ wishes view holdings root
    wishes_at = flat_by wish few (measured_visits view root)

    noted_length : (n : Noted) → AreNotesOf n view holdings root
        → length n.notes ≡ length (noted_at view root)
    noted_length n are =
        ap length are.notes
        ∙ length-map (linked_visits view root) (note_of view holdings)
        ∙ sym (length-map (linked_visits view root) (λ l. l.tree))
        ∙ ap length (trees_noted view root ∙ sym trees_at)
        ∙ length-map (noted_at view root) (λ m. m.tree)

-- ---- one node

waits_is : (view : ViewParts) (holdings : Holdings) (l : Linked)
    → waits (note_of view holdings l) ≡ is_pending l.tree
waits_is view holdings l = by (is_pending l.tree) (wants view l.tree) (adds l.tree)
  where
    by : (k w a : Bool)
        → waits_by (if k then Pending else if not w then Leaf else if a then Adding else Replacing)
        ≡ k
    by true w a = refl
    by false false a = refl
    by false true true = refl
    by false true false = refl

or_rest : (e a : Bool) → a ≡ true → (e || (not e && a)) ≡ true
or_rest true a h = refl
or_rest false a h = h

none_key : (o : Option Key) → is_some o ≡ false → o ≡ None
none_key None e = refl
none_key (Some key) e = cc

module _ (n : Noted) (holdings : Holdings) (number waiting : ℕ) (x : Note)
    (here : slice_get n.notes number ≡ Some x) where
  module _ (view : ViewParts) (root : Option Tree) (m : Measured)
      (at : IsNodeAt n view holdings root number waiting m) where
    tree_here : slice_get (noted view root) number ≡ Some m.tree
    tree_here =
        ap (λ ts. slice_get ts number) (sym (trees_at view root))
        ∙ slice_get-map (λ (o : Measured). o.tree) (noted_at view root) number
        ∙ ap (option_map (λ (o : Measured). o.tree)) at.here

    linked_here : IsFrom (λ (l : Linked). l.tree) (linked_visits view root) number m.tree
    linked_here =
        is_from (λ (l : Linked). l.tree) (linked_visits view root) number m.tree
        (ap (λ ts. slice_get ts number) (trees_noted view root) ∙ tree_here)

    note_here : x ≡ note_of view holdings linked_here.from
    note_here =
        let there : slice_get n.notes number ≡ Some (note_of view holdings linked_here.from) =
        ap (λ ns. slice_get ns number) at.notes.notes
        ∙ slice_get-map (note_of view holdings) (linked_visits view root) number
        ∙ ap (option_map (note_of view holdings)) linked_here.here in
        cc

    waits_here : waits x ≡ is_pending m.tree
    waits_here =
        ap waits note_here ∙ waits_is view holdings linked_here.from ∙ ap is_pending linked_here.same

    kept_here : is_kept x ≡ keeps_own view holdings m.tree
    kept_here =
        ap is_kept note_here ∙ kept_is view holdings linked_here.from
        ∙ ap (keeps_own view holdings) linked_here.same

    own_here : x.own ≡ length (own_contents holdings m.tree)
    own_here =
        ap (λ (y : Note). y.own) note_here
        ∙ ap (λ t. length (own_contents holdings t)) linked_here.same

    resident_here : x.resident ≡ length (filter holdings.resident (own_contents holdings m.tree))
    resident_here =
        ap (λ (y : Note). y.resident) note_here
        ∙ ap (λ t. length (filter holdings.resident (own_contents holdings t))) linked_here.same

    ranks_here : (r : Ranks) → slice_get n.ranks number ≡ Some r → r ≡ ranks_of m
    ranks_here r e =
        let there : slice_get n.ranks number ≡ Some (ranks_of m) =
        ap (λ rs. slice_get rs number) (at.notes.ranks ∙ sym (ranks_at view root))
        ∙ slice_get-map ranks_of (noted_at view root) number ∙ ap (option_map ranks_of) at.here in
        cc

    names_here : (xs : List (List ℕ)) → slice_get n.names number ≡ Some xs → xs ≡ addresses_of m.tree
    names_here xs e =
        let there : slice_get n.names number ≡ Some (addresses_of m.tree) =
        ap (λ ts. slice_get ts number) at.notes.names
        ∙ slice_get-map addresses_of (noted view root) number
        ∙ ap (option_map addresses_of) tree_here in
        cc

    key_here : (key : Key) → key_of m.tree ≡ Some key → slice_get n.keys waiting ≡ Some key
    key_here key e =
        ap (λ ks. slice_get ks waiting) (at.notes.keys ∙ sym (keys_noted view root))
        ∙ ap (slice_get (keys_at (noted_at view root))) at.before
        ∙ piece_at (λ o. key_list (key_of o.tree)) (noted_at view root) number m key at.here
        (ap key_list e)

    some_key_here : waits x ≡ true → (key : Key) × (key_of m.tree ≡ Some key)
    some_key_here w = some_key (key_of m.tree) (sym waits_here ∙ w)

    tile_here : waits x ≡ false → key_of m.tree ≡ None
    tile_here w = none_key (key_of m.tree) (sym waits_here ∙ w)

  -- a node that waits
  pub no_key : waits x ≡ true → slice_get n.keys waiting ≡ None → (view : ViewParts)
      (root : Option Tree) (m : Measured) → IsNodeAt n view holdings root number waiting m → ⊥
  no_key w none view root m at =
      let k = some_key_here view root m at w in
      let there = key_here view root m at k.0 k.1 in
      cc

  pub counts_key : (answer : ℕ) → waits x ≡ true → answer ≡ waiting + 1
      → CountsWaiting n holdings number waiting answer
  counts_key answer w e view root m at =
      let k = some_key_here view root m at w in
      let one : length (key_list (key_of m.tree)) ≡ 1 = ap (λ o. length (key_list o)) k.1 in
      omega (arith, e, one)

  pub adds_key : (r : Ranks) (key : Key) (old new : List Want) → waits x ≡ true
      → slice_get n.ranks number ≡ Some r → slice_get n.keys waiting ≡ Some key
      → new ≡ with_want old (want_with r key) → AddsWantsOf n holdings number waiting old new
  adds_key r key old new w e f h view root m at =
      let k = some_key_here view root m at w in
      let there = key_here view root m at k.0 k.1 in
      let same : k.0 ≡ key = cc in
      h ∙ ap (λ q. with_want old (want_with q key)) (ranks_here view root m at r e)
      ∙ ap (fold with_want old)
      (sym (wants_pending holdings (keeps_own view holdings m.tree) m.tree m.distance key
      (k.1 ∙ ap Some same)))

  -- a node that doesn't
  pub counts_none : waits x ≡ false → CountsWaiting n holdings number waiting waiting
  counts_none w view root m at =
      let none : length (key_list (key_of m.tree)) ≡ 0 =
      ap (λ o. length (key_list o)) (tile_here view root m at w) in
      omega (arith, none)

  pub adds_missing : (r : Ranks) (xs : List (List ℕ)) (old new : List Want) → waits x ≡ false
      → lacks_some x ≡ true → slice_get n.ranks number ≡ Some r
      → slice_get n.names number ≡ Some xs
      → new ≡ fold with_want old (map (want_with r) (map content_key
      (filter (is_missing holdings) xs)))
      → AddsWantsOf n holdings number waiting old new
  adds_missing r xs old new w l e f h view root m at =
      let keeps : keeps_own view holdings m.tree ≡ true =
      sym (kept_here view root m at) ∙ and_first (is_kept x) (nat_lt x.resident x.own) l in
      h ∙ ap (λ q. fold with_want old (map (want_with q) (map content_key
      (filter (is_missing holdings) xs)))) (ranks_here view root m at r e)
      ∙ ap (λ ys. fold with_want old (map (want_with (ranks_of m)) (map content_key
      (filter (is_missing holdings) ys)))) (names_here view root m at xs f)
      ∙ ap (λ b. fold with_want old (map (want_with (ranks_of m)) (map content_key
      (missing_contents holdings b m.tree)))) (sym keeps)
      ∙ ap (fold with_want old)
      (sym (wants_tile holdings (keeps_own view holdings m.tree) m (tile_here view root m at w)))
    where
      and_first : (a b : Bool) → (a && b) ≡ true → a ≡ true
      and_first true b i = refl
      and_first false b i = i

  pub adds_none : (old : List Want) → waits x ≡ false → lacks_some x ≡ false
      → AddsWantsOf n holdings number waiting old old
  adds_none old w l view root m at =
      ap (fold with_want old)
      (sym (wants_none holdings (keeps_own view holdings m.tree) m (tile_here view root m at w)
      (none_kept (keeps_own view holdings m.tree)
      (ap (λ b. b && nat_lt x.resident x.own) (sym (kept_here view root m at)) ∙ l))))
    where
      none_kept : (b : Bool) → (b && nat_lt x.resident x.own) ≡ false
          → missing_contents holdings b m.tree ≡ []
      none_kept false i = refl
      none_kept true i =
          let own = own_contents holdings m.tree in
          let counts : length (filter holdings.resident own) ≡ length own =
          omega (
            arith,
            ltb-false x.resident x.own i,
            own_here view root m at,
            resident_here view root m at,
            filter_few holdings.resident own,
          ) in
          let all : list_all holdings.resident own ≡ true =
          all_count holdings.resident own
          ∙ eq-eqb (length (filter holdings.resident own)) (length own) counts in
          none_missing holdings (is_empty own) (not (is_empty own) && list_all holdings.resident own)
          (addresses_of m.tree) refl refl
          (or_rest (is_empty own) (list_all holdings.resident own) all)

-- ---- one node behind another

-- the wishes of the first nodes have joined the wants, and so many of them wait for a key
abbrev pub AsksUpTo : Noted → Holdings → ℕ → ℕ → List Want → List Want → Type 0
AsksUpTo n holdings number waiting start new =
    (view : ViewParts) (root : Option Tree) → AreNotesOf n view holdings root
    → (waiting ≡ length (keys_at (take number (noted_at view root))))
    × (new ≡ fold with_want start
    (flat_map (wish view root holdings) (take number (noted_at view root))))

pub asks_none : (n : Noted) (holdings : Holdings) (start : List Want)
    → AsksUpTo n holdings 0 0 start start
asks_none n holdings start view root are = (refl, refl)

pub asks_next : (n : Noted) (holdings : Holdings) (number waiting count : ℕ)
    (start old new : List Want) → AsksUpTo n holdings number waiting start old
    → number < length n.notes → CountsWaiting n holdings number waiting count
    → AddsWantsOf n holdings number waiting old new → AsksUpTo n holdings (number + 1) count start new
asks_next n holdings number waiting count start old new before lt counts adds view root are =
    let b = before view root are in
    let ms = noted_at view root in
    let s = some_at ms number (omega (arith, lt, noted_length view root holdings n are)) in
    let at : IsNodeAt n view holdings root number waiting s.0 =
    record { notes = are; here = s.1; before = b.0 } in
    let keys : Measured → List Key = λ m. key_list (key_of m.tree) in
    let w = wish view root holdings in (
      omega (
        arith,
        counts view root s.0 at,
        b.0,
        length-append (keys_at (take number ms)) (keys s.0),
        ap length (flat_taken keys ms number s.0 s.1),
      ),
      adds view root s.0 at ∙ ap (λ ws. fold with_want ws (w s.0)) b.1
          ∙ sym (fold-append with_want start (flat_map w (take number ms)) (w s.0))
          ∙ ap (fold with_want start) (sym (flat_taken w ms number s.0 s.1)),
    )

pub asks_all : (n : Noted) (holdings : Holdings) (number waiting : ℕ) (start new : List Want)
    → AsksUpTo n holdings number waiting start new → length n.notes ≤ number
    → AddsWishes holdings n start new
asks_all n holdings number waiting start new before le view root are =
    let ms = noted_at view root in
    (before view root are).1
    ∙ ap (λ ts. fold with_want start (flat_map (wish view root holdings) ts))
    (take_all number ms (omega (arith, le, noted_length view root holdings n are)))
    ∙ ap (fold with_want start) (wishes_at view root holdings)

pub asks_once : (n : Noted) (holdings : Holdings) (start new : List Want) → start ≡ []
    → AddsWishes holdings n start new → TellsWanted holdings n new
asks_once n holdings start new e adds view root are =
    adds view root are ∙ ap (λ ws. fold with_want ws (wishes view holdings root)) e
    ∙ sym (wanted_once view holdings root)

-- ---- one view behind another

record IsOneOf (holdings : Holdings) (root : Option Tree) (views : List ViewParts) (i : ℕ)
    (n : Noted) : Type 0 where
  view : ViewParts
  here : slice_get views i ≡ Some view
  notes : AreNotesOf n view holdings root

one_of : (holdings : Holdings) (root : Option Tree) (ns : List Noted) (views : List ViewParts)
    (i : ℕ) (n : Noted) → AreNotesOfEach ns views holdings root → slice_get ns i ≡ Some n
    → IsOneOf holdings root views i n
one_of holdings root [] [] i n h e = cc
one_of holdings root [] (view ∷ views) i n h e = absurd h
one_of holdings root (m ∷ ns) [] i n h e = absurd h
one_of holdings root (m ∷ ns) (view ∷ views) zero n h e =
    let same : m ≡ n = cc in
    record {
      view = view;
      here = refl;
      notes = subst (λ o. AreNotesOf o view holdings root) same h.0;
    }
one_of holdings root (m ∷ ns) (view ∷ views) (suc i) n h e =
    let rest = one_of holdings root ns views i n h.1 e in
    record { view = rest.view; here = rest.here; notes = rest.notes }

pub as_many : (holdings : Holdings) (root : Option Tree) (ns : List Noted) (views : List ViewParts)
    → AreNotesOfEach ns views holdings root → length views ≡ length ns
as_many holdings root [] [] h = refl
as_many holdings root [] (view ∷ views) h = absurd h
as_many holdings root (m ∷ ns) [] h = absurd h
as_many holdings root (m ∷ ns) (view ∷ views) h =
    omega (arith, as_many holdings root ns views h.1)

-- the wishes of the first views have joined the wants
abbrev pub AsksViewsUpTo : List Noted → Holdings → ℕ → List Want → Type 0
AsksViewsUpTo ns holdings number new =
    (views : List ViewParts) (root : Option Tree) → AreNotesOfEach ns views holdings root
    → new ≡ fold with_want [] (flat_map (λ view. wishes view holdings root) (take number views))

pub views_none : (ns : List Noted) (holdings : Holdings) (new : List Want) → new ≡ []
    → AsksViewsUpTo ns holdings 0 new
views_none ns holdings new e views root h = e

pub views_next : (ns : List Noted) (holdings : Holdings) (number : ℕ) (n : Noted)
    (old new : List Want) → AsksViewsUpTo ns holdings number old → slice_get ns number ≡ Some n
    → AddsWishes holdings n old new → AsksViewsUpTo ns holdings (number + 1) new
views_next ns holdings number n old new before e adds views root h =
    let one = one_of holdings root ns views number n h e in
    let w : ViewParts → List Want = λ view. wishes view holdings root in
    adds one.view root one.notes ∙ ap (λ ws. fold with_want ws (w one.view)) (before views root h)
    ∙ sym (fold-append with_want [] (flat_map w (take number views)) (w one.view))
    ∙ ap (fold with_want []) (sym (flat_taken w views number one.view one.here))

pub views_all : (ns : List Noted) (holdings : Holdings) (number : ℕ) (new : List Want)
    → AsksViewsUpTo ns holdings number new → length ns ≤ number → TellsWantedBy holdings ns new
views_all ns holdings number new before le views root h =
    before views root h
    ∙ ap (λ vs. fold with_want [] (flat_map (λ view. wishes view holdings root) vs))
    (take_all number views (omega (arith, le, as_many holdings root ns views h)))
