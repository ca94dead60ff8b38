-- What a change takes from what a view keeps and waits for.
use Rattle.std.specs.Prelude.{ℕ, ◌≡◌, Bool, true, not, ◌&&◌, Option, List}
use Rattle.std.specs.List.{list_all, list_any}
use Rattle.tile_types.specs.declared.key.Key.{Key}
use Rattle.tile_types.specs.Keys.{same_key}
use Rattle.error_test.specs.Views.{ViewParts}
use Rattle.expanded_tree.specs.Tree.{Tree, addresses_of, key_of}
use Rattle.cut_core.specs.Cut.{Holdings}
use Rattle.cut_core.specs.Visits.{content_key, keeps_own}
use Rattle.cut_core.specs.Wants.{is_missing, key_list}
use Rattle.view_notes.specs.Views.{kept, noted}

-- the tile's own contents aren't kept any more, and one of them is among these
abbrev pub leaves : (List ℕ → Bool) → ViewParts → Holdings → Holdings → Tree → Bool
leaves lacking view old new t =
    keeps_own view old t && (not (keeps_own view new t) && list_any lacking (addresses_of t))

-- no visited tile leaves one of these contents
abbrev pub leaves_none : (List ℕ → Bool) → ViewParts → Holdings → Holdings → Option Tree → Bool
leaves_none lacking view old new root =
    list_all (λ t. not (leaves lacking view old new t)) (noted view root)

-- a content that is still missing and may be taken
abbrev pub lacks : (Key → Bool) → Holdings → List ℕ → Bool
lacks may holdings address = may (content_key address) && is_missing holdings address

-- the one test passes what the other passes
abbrev pub Includes : (List ℕ → Bool) → (List ℕ → Bool) → Type 0
Includes test other = (x : List ℕ) → other x ≡ true → test x ≡ true

-- no visited node waits for this key
abbrev pub NoneWaits : Key → ViewParts → Option Tree → Type 0
NoneWaits key view root =
    list_all (λ t. list_all (λ k. not (same_key key k)) (key_list (key_of t))) (noted view root)
    ≡ true

-- none of these contents is kept
abbrev pub KeepsNone : (List ℕ → Bool) → ViewParts → Holdings → Option Tree → Type 0
KeepsNone out view holdings root = list_all (λ x. not (out x)) (kept view holdings root) ≡ true
