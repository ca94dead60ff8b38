-- What a view wants loaded.
use Rattle.std.specs.Prelude.{ℕ, Bool, ◌&&◌, not, min, max, Option, Some, None, List, [], ◌∷◌, ◌++◌, if◌then◌else◌, filter, fold, map}
use Rattle.std.specs.List.{flat_map}
use Rattle.tile_types.specs.declared.key.Key.{Key}
use Rattle.tile_types.specs.declared.want.Want.{Want}
use Rattle.tile_types.specs.Keys.{same_key}
use Rattle.tile_types.specs.Wants.{Ranks}
use Rattle.error_test.specs.Views.{ViewParts}
use Rattle.expanded_tree.specs.Tree.{Tree, addresses_of, facts_of, key_of}
use Rattle.cut_core.specs.Cut.{Holdings}
use Rattle.cut_core.specs.Distances.{Measured, measured_visits}
use Rattle.cut_core.specs.Visits.{content_key, keeps_own, unless_too_many}

-- ---- what a node wants

-- the content is neither resident nor known to be absent
abbrev pub is_missing : Holdings → List ℕ → Bool
is_missing holdings address = not (holdings.absent address) && not (holdings.resident address)

-- the missing ones of a node's own contents, if it keeps them
abbrev pub missing_contents : Holdings → Bool → Tree → List (List ℕ)
missing_contents holdings keeps t =
    if keeps then filter (is_missing holdings) (addresses_of t) else []

abbrev pub key_list : Option Key → List Key
key_list None = []
key_list (Some key) = key ∷ []

-- the key that a pending node waits for, and those of a tile's missing contents, if it keeps them
abbrev pub keys_wanted : Holdings → Bool → Tree → List Key
keys_wanted holdings keeps t =
    key_list (key_of t) ++ map content_key (missing_contents holdings keeps t)

-- what a node ranks its wants by
abbrev pub ranks_of : Measured → Ranks
ranks_of m = record { distance = m.distance; error = (facts_of m.tree).error }

abbrev pub want_with : Ranks → Key → Want
want_with ranks key = record { key = key; facts = ranks }

abbrev pub wants_of : Holdings → Bool → Measured → List Want
wants_of holdings keeps m = map (want_with (ranks_of m)) (keys_wanted holdings keeps m.tree)

-- ---- each key once

-- the least distance and the greatest error of both
abbrev pub joined : Ranks → Ranks → Ranks
joined a b = record { distance = min a.distance b.distance; error = max a.error b.error }

-- a want joins an earlier one of its key, or else comes last
abbrev pub with_want : List Want → Want → List Want
with_want [] w = w ∷ []
with_want (v ∷ vs) w =
    if same_key w.key v.key then record { key = v.key; facts = joined v.facts w.facts } ∷ vs
    else v ∷ with_want vs w

-- each key at its first place
abbrev pub each_once : List Want → List Want
each_once ws = fold with_want [] ws

-- the keys that a view wants, in preorder, each once: those of the visited pending nodes, and of the
-- contents that it keeps and that are missing; none where it visits more nodes than it may
abbrev pub wanted : ViewParts → Holdings → Option Tree → List Want
wanted view holdings root =
    unless_too_many view root
    (each_once
    (flat_map (λ m. wants_of holdings (keeps_own view holdings m.tree) m)
    (measured_visits view root)))
