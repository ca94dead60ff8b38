-- What holds after every legal journal.
use Rattle.std.specs.Prelude.{◌≤◌, Bool, ◌&&◌, not, if◌then◌else◌, is_none, List, map, length, All, Contains}
use Rattle.std.specs.List.{list_any, IsDistinct}
use Rattle.std.specs.List.Sorted.{IsStrictlyIncreasing}
use Rattle.tile_types.specs.declared.key.Key.{Key}
use Rattle.tile_types.specs.Keys.{same_key}
use Rattle.tile_cache.specs.Residents.{Resident as CacheResident, same_text}
use Rattle.content_digest.specs.Facts.{facts_of}
use Rattle.doc_store.specs.Docs.{bytes_of, is_content}
use Rattle.tree_expansion.specs.Whole.{is_document}
use Rattle.engine_state.specs.declared.frame_line.FrameLine.{FrameLine}
use Rattle.engine_state.specs.declared.held_frame.HeldFrame.{HeldFrame}
use Rattle.engine_state.specs.declared.limits.TheConstants.{FRAME_LIMIT}
use Rattle.engine_state.specs.declared.resident.Resident.{Resident}
use Rattle.engine_state.specs.State.{State}
use Rattle.engine_state.specs.Frames.{has_address}
use Rattle.engine_state.specs.Room.{bytes_in}

-- the resident that a line names: the one of its address, with its length and its digest
abbrev pub resident_of : FrameLine → Resident
resident_of line = record { address = line.address; facts = line.facts }

-- the lines name residents
abbrev pub AreResident : List Resident → HeldFrame → Type 0
AreResident residents frame =
    All (λ line. Contains residents (resident_of line)) frame.lines

-- each line of each held frame names a resident
abbrev pub ShownIsResident : State → Type 0
ShownIsResident s = All (AreResident s.residents) s.frames

-- the bytes of the residents are within the budget
abbrev pub IsWithinBudget : State → Type 0
IsWithinBudget s = bytes_in s.residents ≤ s.budget

-- no address is resident twice
abbrev pub AreOnce : List Resident → Type 0
AreOnce residents = IsDistinct same_text (map (λ r. r.address) residents)

-- the numbers of the held frames rise, none is above that of the last one given, and there are no
-- more of them than may be held
pub record AreNumbered (s : State) : Type 0 where
  pub rise : IsStrictlyIncreasing (map (λ frame. frame.id) s.frames)
  pub given : All (λ frame. frame.id ≤ s.looks) s.frames
  pub few : length s.frames ≤ FRAME_LIMIT

-- the key is to be loaded: it isn't absent, and it is a content's that isn't resident, or that of a
-- tileset, or of a subtree whose levels are within the limits, that isn't loaded
abbrev pub is_to_load : State → Key → Bool
is_to_load s key =
    not (list_any (same_key key) s.absent)
    && (if is_content key then not (has_address s.residents key.address)
    else (is_document key && is_none (bytes_of s.loaded key)))

-- what is known of a content of a cache
abbrev pub known : CacheResident → Resident
known r = record { address = r.address; facts = facts_of r.content }
