-- The notes of a view, and what becomes of them when a content changes.
use Rattle.std.specs.Prelude.{ℕ, ◌≡◌, Bool, Option, List, [], bytes_eq, false, map}
use Rattle.std.specs.List.{flat_map, list_any}
use Rattle.tile_types.specs.declared.key.Key.{Key}
use Rattle.tile_types.specs.Wants.{Ranks}
use Rattle.error_test.specs.Views.{ViewParts}
use Rattle.expanded_tree.specs.Tree.{Tree, key_of}
use Rattle.cut_core.specs.Cut.{Holdings}
use Rattle.cut_core.specs.Distances.{measured_visits}
use Rattle.cut_core.specs.Visits.{unless_too_many}
use Rattle.cut_core.specs.Wants.{key_list, ranks_of}
use Rattle.view_notes.specs.declared.note.Note.{Note}
use Rattle.view_notes.specs.Leaving.{leaves_none}
use Rattle.view_notes.specs.Notes.{root_notes}
use Rattle.view_notes.specs.Views.{kept, names, noted}

-- a note of each visited node, the addresses that it names, and what its wants are ranked by; and the
-- keys of the pending ones
pub record Noted : Type 0 where
  pub notes : List Note
  pub names : List (List (List ℕ))
  pub ranks : List Ranks
  pub keys : List Key

abbrev pub nothing_noted : Noted
nothing_noted = record { notes = []; names = []; ranks = []; keys = [] }

-- what the wants of the noted nodes are ranked by
abbrev pub ranks : ViewParts → Option Tree → List Ranks
ranks view root = unless_too_many view root (map ranks_of (measured_visits view root))

-- the keys that the noted nodes wait for
abbrev pub keys : ViewParts → Option Tree → List Key
keys view root = flat_map (λ t. key_list (key_of t)) (noted view root)

-- these are the notes of a view over a tree, while these contents are there
pub record AreNotesOf (n : Noted) (view : ViewParts) (holdings : Holdings) (root : Option Tree)
    : Type 0 where
  pub notes : n.notes ≡ root_notes view holdings root
  pub names : n.names ≡ names view root
  pub ranks : n.ranks ≡ ranks view root
  pub keys : n.keys ≡ keys view root

-- the notes of whatever view and tree are its notes still, when this has happened to the contents
abbrev pub Follow : (Holdings → Holdings → Type 0) → Noted → Noted → Type 0
Follow Happened old new =
    (view : ViewParts) (before after : Holdings) (root : Option Tree)
    → AreNotesOf old view before root → Happened before after → AreNotesOf new view after root

-- the answer is whether no tile that isn't kept any more has one of these contents
abbrev pub TellsLeaving : (Holdings → Holdings → Type 0) → (List ℕ → Bool) → Noted → Bool → Type 0
TellsLeaving Happened awaited old answer =
    (view : ViewParts) (before after : Holdings) (root : Option Tree)
    → AreNotesOf old view before root → Happened before after
    → answer ≡ leaves_none awaited view before after root

-- the answer is whether the view keeps the content at this address, where it isn't absent
abbrev pub TellsKept : List ℕ → Noted → Bool → Type 0
TellsKept address n answer =
    (view : ViewParts) (holdings : Holdings) (root : Option Tree) → AreNotesOf n view holdings root
    → holdings.absent address ≡ false
    → answer ≡ list_any (bytes_eq address) (kept view holdings root)
