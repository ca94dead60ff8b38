-- How the notes of a view are kept.
use Rattle.std.specs.Prelude.{ℕ, ◌≡◌, List, length}
use Rattle.tile_types.specs.Wants.{Ranks}
use Rattle.view_notes.specs.declared.note.Note.{Note}
use Rattle.view_notes.specs.Agreement.{Agree}

-- the notes agree with one another, and there is as much of the rest
pub record AreKept (notes : List Note) (names : List (List (List ℕ))) (ranks : List Ranks)
    : Type 0 where
  pub agree : Agree notes
  pub named : length names ≡ length notes
  pub ranked : length ranks ≡ length notes
