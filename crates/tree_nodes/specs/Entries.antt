-- Entries that are made for places.
use Rattle.std.specs.Prelude.{ℕ, ◌≡◌, ◌+◌, length}
use Rattle.implicit_walk.specs.declared.place.Place.{Place}
use Rattle.doc_store.specs.Store.{Stored}
use Rattle.tree_nodes.specs.declared.place_entry.PlaceEntry.{PlaceEntry}
use Rattle.tree_nodes.specs.declared.place_entry.SubtreeState.{SubtreeState}
use Rattle.tree_nodes.specs.declared.place_entry.SubtreeState.TheVariants.{Read, Awaited}
use Rattle.tree_nodes.specs.declared.tables.Tables.{Tables}
use Rattle.tree_nodes.specs.Fronts.{Continues}
use Rattle.tree_nodes.specs.Places.{HasTop}

-- whether a place waits, as a number
abbrev pub state_waits : SubtreeState → ℕ
state_waits (Read subtree) = 0
state_waits (Awaited waiting) = 1

-- the entry of a place below the implicit root of this number, and what it speaks of
pub record IsEntry (store : Stored) (old new : Tables) (number : ℕ) (at : Place)
    (entry : PlaceEntry) : Type 0 where
  pub tables : Continues old new
  pub places : new.places.items ≡ old.places.items
  pub waits : length new.waiting.items ≡ length old.waiting.items + state_waits entry.state
  pub place : entry.at ≡ at
  pub number_is : entry.top ≡ number
  pub has : HasTop store new entry
