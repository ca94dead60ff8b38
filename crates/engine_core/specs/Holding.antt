-- What a core has of contents, and what it keeps of the frames that are held.
use Rattle.std.specs.Prelude.{ℕ, List, filter_map, fold, map}
use Rattle.std.specs.List.{list_any}
use Rattle.cut_core.specs.Cut.{Holdings}
use Rattle.cut_core.specs.declared.line.CutLine.{CutLine}
use Rattle.tile_cache.specs.Residents as cache
use Rattle.engine_state.specs.declared.frame_line.FrameLine.{FrameLine}
use Rattle.engine_state.specs.declared.held_frame.HeldFrame.{HeldFrame}
use Rattle.engine_state.specs.Frames.{addresses_of, line_from}
use Rattle.engine_state.specs.Laws.{known}
use Rattle.engine_core.specs.declared.held_pins.FramePins.{FramePins}

-- the contents of a cache, and the addresses of those of which nothing comes
abbrev pub holdings_of : List cache.Resident → List (List ℕ) → Holdings
holdings_of residents gone = record {
  resident = cache.has_address residents;
  absent = λ address. list_any (cache.same_text address) gone;
}

-- the lines of a cut whose contents the cache has, with what is known of these
abbrev pub lines_with : List cache.Resident → List CutLine → List FrameLine
lines_with residents lines = filter_map (line_from (map known residents)) lines

-- what is kept of a held frame: its number, and the address of each of its lines
abbrev pub pins_of : HeldFrame → FramePins
pins_of frame = record { id = frame.id; addresses = addresses_of frame.lines }

-- ---- use

-- the contents at these addresses are used in turn
abbrev pub used_in_turn : List (List ℕ) → List cache.Resident → List cache.Resident
used_in_turn addresses residents = fold cache.moved_up residents addresses
