-- What a view shows in a state: the cut over the documents then loaded and the contents then at hand.
use Rattle.std.specs.Prelude.{ℕ, ◌==◌, Bool, nat_lt, Option, option_map, List, filter_map, find, length, map}
use Rattle.std.specs.List.{flat_map, list_any}
use Rattle.tile_types.specs.Keys.{same_key}
use Rattle.tile_cache.specs.Residents.{same_text}
use Rattle.error_test.specs.Views.{ViewParts}
use Rattle.expanded_tree.specs.Tree.{Tree}
use Rattle.cut_core.specs.declared.line.CutLine.{CutLine}
use Rattle.cut_core.specs.declared.findings.TheConstants.{VISITED_LIMIT}
use Rattle.cut_core.specs.Cut.{Holdings, cut}
use Rattle.cut_core.specs.Visits.{content_key, visits}
use Rattle.tree_expansion.specs.Expansion.{expand}
use Rattle.engine_state.specs.declared.frame_line.FrameLine.{FrameLine}
use Rattle.engine_state.specs.declared.held_frame.HeldFrame.{HeldFrame}
use Rattle.engine_state.specs.declared.resident.Resident.{Resident}
use Rattle.engine_state.specs.State.{State, contents, docs}

-- the expanded tree of the documents at hand
unfoldable pub tree : State → Option Tree
tree s = expand (docs s) s.root

abbrev pub has_address : List Resident → List ℕ → Bool
has_address residents address = list_any (λ r. same_text r.address address) residents

-- the contents at hand, and those of which it is known that nothing comes of them
abbrev pub holdings : State → Holdings
holdings s = record {
  resident = has_address s.residents;
  absent = λ address. list_any (same_key (content_key address)) (contents s.absent);
}

-- the view visits more nodes than it may, and so has no frame
abbrev pub is_too_large : State → ViewParts → Bool
is_too_large s view = nat_lt VISITED_LIMIT (length (visits view (tree s)))

abbrev pub line_with : CutLine → Resident → FrameLine
line_with line r = record { tile = line.tile; address = line.address; facts = r.facts }

-- a line of the cut, with the length and the digest of the resident at its address
abbrev pub line_from : List Resident → CutLine → Option FrameLine
line_from residents line =
    option_map (line_with line) (find (λ r. same_text r.address line.address) residents)

-- the lines of a frame of this view
abbrev pub frame_lines : State → ViewParts → List FrameLine
frame_lines s view = filter_map (line_from s.residents) (cut view (holdings s) (tree s))

-- the lines without lengths and digests
abbrev pub cut_lines : List FrameLine → List CutLine
cut_lines lines = map (λ l. record { tile = l.tile; address = l.address }) lines

abbrev pub addresses_of : List FrameLine → List (List ℕ)
addresses_of lines = map (λ l. l.address) lines

-- ---- frames that are held

-- an address for each line of each frame: what is there is pinned once for each of them
abbrev pub pinned : List HeldFrame → List (List ℕ)
pinned frames = flat_map (λ frame. addresses_of frame.lines) frames

abbrev pub is_held : List HeldFrame → ℕ → Bool
is_held frames id = list_any (λ frame. frame.id == id) frames
