-- What a view visits, keeps and wants: nothing, where it visits more nodes than it may.
use Rattle.std.specs.Prelude.{ℕ, ◌≡◌, Bool, true, not, Option, List, [], ◌∷◌, filter, map}
use Rattle.std.specs.List.{flat_map}
use Rattle.tile_types.specs.declared.key.Key.{Key}
use Rattle.tile_types.specs.declared.want.Want.{Want}
use Rattle.tile_types.specs.Keys.{same_key}
use Rattle.error_test.specs.Views.{ViewParts}
use Rattle.expanded_tree.specs.Tree.{Tree, addresses_of}
use Rattle.cut_core.specs.Cut.{Holdings}
use Rattle.cut_core.specs.Distances.{measured_visits}
use Rattle.cut_core.specs.Visits.{content_key, kept_addresses, keeps_own, unless_too_many, visits}
use Rattle.cut_core.specs.Wants.{each_once, wants_of}

-- the visited nodes that are noted
abbrev pub noted : ViewParts → Option Tree → List Tree
noted view root = unless_too_many view root (visits view root)

-- the addresses that each noted node names
abbrev pub names : ViewParts → Option Tree → List (List (List ℕ))
names view root = map addresses_of (noted view root)

-- the addresses that a view keeps
abbrev pub kept : ViewParts → Holdings → Option Tree → List (List ℕ)
kept view holdings root = unless_too_many view root (kept_addresses view holdings root)

-- what the visited nodes want, in preorder, where a key may stand more than once
abbrev pub wishes : ViewParts → Holdings → Option Tree → List Want
wishes view holdings root =
    unless_too_many view root
    (flat_map (λ m. wants_of holdings (keeps_own view holdings m.tree) m)
    (measured_visits view root))

-- what several views want, each key once, at its first place
abbrev pub wanted_by : List ViewParts → Holdings → Option Tree → List Want
wanted_by views holdings root = each_once (flat_map (λ view. wishes view holdings root) views)

-- the wants of other keys
abbrev pub other_wants : Key → List Want → List Want
other_wants key ws = filter (λ w. not (same_key key w.key)) ws

-- the wants that may be taken
abbrev pub takeable : (Key → Bool) → List Want → List Want
takeable may ws = filter (λ w. may w.key) ws

-- the test doesn't tell keys apart that are the same
abbrev pub RespectsKeys : (Key → Bool) → Type 0
RespectsKeys may = (k l : Key) → same_key k l ≡ true → may k ≡ may l

-- the wishes of each view lose the content at this address alone
abbrev pub EachLoses : List ℕ → Holdings → Holdings → Option Tree → List ViewParts → Type 0
EachLoses address old new root [] = Unit {0}
EachLoses address old new root (view ∷ views) =
    (wishes view new root ≡ other_wants (content_key address) (wishes view old root))
    × EachLoses address old new root views

-- of the wishes of each view the same may be taken
abbrev pub EachTakeable : (Key → Bool) → Holdings → Holdings → Option Tree → List ViewParts → Type 0
EachTakeable may old new root [] = Unit {0}
EachTakeable may old new root (view ∷ views) =
    (takeable may (wishes view new root) ≡ takeable may (wishes view old root))
    × EachTakeable may old new root views
