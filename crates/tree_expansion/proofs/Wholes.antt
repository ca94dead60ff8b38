-- A tree that has no pending node grows into itself.
use Rattle.std.proofs.Common.{ℕ, ◌≡◌, Bool, true, false, ◌&&◌, Option, Some, None, option_to_list, List, [], ◌∷◌, refl, ap}
use Rattle.tile_types.specs.declared.key.Key.{Key}
use Rattle.source_port.specs.Library.{Library}
use Rattle.doc_store.specs.Docs.{Docs}
use Rattle.expanded_tree.specs.Tree.{Tree, Trees, tile, no_trees, more_trees, list_of}
use Rattle.tree_expansion.specs.Expansion.{expand}
use Rattle.tree_expansion.specs.Growth.{Grown, same_tile, read, AllGrown, none_grown, more_grown, dropped, RootGrown}
use Rattle.tree_expansion.specs.Whole.{AgreesWith, IsWhole, all_keys, all_keys_in, all_root_keys, full, whole_docs}
use Rattle.tree_expansion.proofs.Agreeing.{grows_into_full}

and_left : (a b : Bool) → (a && b) ≡ true → a ≡ true
and_left true b e = refl
and_left false b e = cc

and_right : (a b : Bool) → (a && b) ≡ true → b ≡ true
and_right true b e = e
and_right false b e = cc

abbrev never : Key → Bool
never key = false

abbrev all_never : List Tree → Bool
all_never [] = true
all_never (t ∷ ts) = all_keys never t && all_never ts

listed : (ts : Trees) → all_keys_in never ts ≡ true → all_never (list_of ts) ≡ true
listed no_trees e = refl
listed (more_trees t ts) e =
    elim (all_keys never t) as (λ b. (b && all_keys_in never ts) ≡ true
    → (b && all_never (list_of ts)) ≡ true) [ true ↦ λ h. listed ts h | false ↦ λ h. cc ] e

same_trees : (ts us : Trees) → list_of ts ≡ list_of us → ts ≡ us
same_trees no_trees no_trees e = refl
same_trees no_trees (more_trees u us) e = cc
same_trees (more_trees t ts) no_trees e = cc
same_trees (more_trees t ts) (more_trees u us) e =
    let first : t ≡ u = cc in
    let rest : ts ≡ us = same_trees ts us cc in
    cc

module _ (new : Docs) where
  mutual
    stays : (t u : Tree) → Grown new t u → all_keys never t ≡ true → t ≡ u
    stays t u (same_tile parts ts ts' g) e =
        ap (tile parts) (same_trees ts ts' (all_stay (list_of ts) (list_of ts') g (listed ts e)))
    stays t u (read name facts key v found s) e = cc

    all_stay : (ts us : List Tree) → AllGrown new ts us → all_never ts ≡ true → ts ≡ us
    all_stay ts us none_grown e = refl
    all_stay ts us (more_grown t t' rest rest' g gs) e =
        let first : t ≡ t' = stays t t' g (and_left (all_keys never t) (all_never rest) e) in
        let others : rest ≡ rest' =
        all_stay rest rest' gs (and_right (all_keys never t) (all_never rest) e) in
        cc
    all_stay ts us (dropped name facts key rest rest' why gs) e = cc

same_option : (old new : Option Tree) → option_to_list old ≡ option_to_list new → old ≡ new
same_option None None e = refl
same_option None (Some u) e = cc
same_option (Some t) None e = cc
same_option (Some t) (Some u) e = let same : t ≡ u = cc in ap Some same

all_of : (old : Option Tree) → all_root_keys never old ≡ true
    → all_never (option_to_list old) ≡ true
all_of None e = refl
all_of (Some t) e = ap (λ b. b && true) e

root_stays : (new : Docs) (from to : Option Tree) → RootGrown new from to
    → all_root_keys never from ≡ true → from ≡ to
root_stays new from to g e =
    same_option from to (all_stay new (option_to_list from) (option_to_list to) g (all_of from e))

pub whole_is_full : (library : Library) (docs : Docs) → AgreesWith library docs → (root : List ℕ)
    → IsWhole (expand docs root) → expand docs root ≡ full library root
whole_is_full library docs a root w =
    root_stays (whole_docs library) (expand docs root) (full library root)
    (grows_into_full library docs a root) w
