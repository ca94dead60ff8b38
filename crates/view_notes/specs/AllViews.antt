-- What becomes of the notes of several views.
use Rattle.std.specs.Prelude.{All, ◌≡◌, ℕ, Bool, Option, List}
use Rattle.std.specs.List.{list_all}
use Rattle.tile_types.specs.declared.key.Key.{Key}
use Rattle.error_test.specs.Views.{ViewParts}
use Rattle.expanded_tree.specs.Tree.{Tree}
use Rattle.cut_core.specs.Cut.{Holdings}
use Rattle.view_notes.specs.Asking.{AreNotesOfEach}
use Rattle.view_notes.specs.Follows.{Noted}
use Rattle.view_notes.specs.Leaving.{KeepsNone, NoneWaits, leaves_none}

-- the notes of whatever views and tree are their notes still, when this has happened to the contents
abbrev pub FollowEach : (Holdings → Holdings → Type 0) → List Noted → List Noted → Type 0
FollowEach Happened old new =
    (views : List ViewParts) (before after : Holdings) (root : Option Tree)
    → AreNotesOfEach old views before root → Happened before after
    → AreNotesOfEach new views after root

-- no tile leaves one of these contents, whichever view it is
abbrev pub each_leaves_none : (List ℕ → Bool) → List ViewParts → Holdings → Holdings → Option Tree
    → Bool
each_leaves_none contents views old new root =
    list_all (λ view. leaves_none contents view old new root) views

-- the answer is whether no view's tile that isn't kept any more has one of these contents
abbrev pub TellsLeavingEach : (Holdings → Holdings → Type 0) → (List ℕ → Bool) → List Noted → Bool
    → Type 0
TellsLeavingEach Happened awaited old answer =
    (views : List ViewParts) (before after : Holdings) (root : Option Tree)
    → AreNotesOfEach old views before root → Happened before after
    → answer ≡ each_leaves_none awaited views before after root

-- no node that one of the views visits waits for this key
abbrev pub EachNoneWaits : Key → List ViewParts → Option Tree → Type 0
EachNoneWaits key views root = All (λ view. NoneWaits key view root) views

-- none of these contents is kept by one of the views
abbrev pub EachKeepsNone : (List ℕ → Bool) → List ViewParts → Holdings → Option Tree → Type 0
EachKeepsNone out views holdings root = All (λ view. KeepsNone out view holdings root) views
