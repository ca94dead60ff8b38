-- What notes tell of what is kept.
use Rattle.std.specs.Prelude.{ℕ, Bool, false, ◌&&◌, ◌||◌, bytes_eq, List, [], ◌∷◌}
use Rattle.std.specs.List.{list_any}
use Rattle.view_notes.specs.declared.note.Note.{Note}
use Rattle.view_notes.specs.Follows.{Noted}
use Rattle.view_notes.specs.Notes.{is_kept}

-- a node that keeps its own contents names the content at this address
abbrev pub keeps_among : List Note → List (List (List ℕ)) → List ℕ → Bool
keeps_among [] names address = false
keeps_among (n ∷ ns) [] address = false
keeps_among (n ∷ ns) (xs ∷ names) address =
    (is_kept n && list_any (bytes_eq address) xs) || keeps_among ns names address

abbrev pub keeps_content : Noted → List ℕ → Bool
keeps_content n address = keeps_among n.notes n.names address

-- one of the views does
abbrev pub any_keeps : List Noted → List ℕ → Bool
any_keeps ns address = list_any (λ n. keeps_content n address) ns
