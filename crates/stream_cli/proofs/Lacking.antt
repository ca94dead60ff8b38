-- Lines of absent contents: an ideal cut leaves out these and nothing else, where no visited node is
-- pending.
use Rattle.std.proofs.Common.{◌≡◌, ℕ, Bool, false, not, is_none, Option, Some, None, List, [], ◌∷◌, ◌++◌, filter, map}
use Rattle.std.proofs.Common.{refl, sym, ap, ◌∙◌}
use Rattle.std.specs.List.{flat_map}
use Rattle.std.specs.Option.{is_some}
use Rattle.std.proofs.lemmas.List.Elements.{filter-append}
use Rattle.error_test.specs.Views.{ViewParts}
use Rattle.expanded_tree.specs.Tree.{Tree, addresses_of, name_of}
use Rattle.cut_core.specs.Cut.{ideal, lines_of}
use Rattle.cut_core.specs.Laws.{IsLoaded, stays}
use Rattle.cut_core.specs.Visits.{visits}
use Rattle.cut_core.specs.declared.line.CutLine.{CutLine}
use Rattle.cut_core.proofs.Settling.{shows_what_stays}
use Rattle.stream_cli.specs.Awaited.{nothing_absent}
use Rattle.stream_cli.specs.Contents.{Contents, lacking}

-- the content of the line is there
abbrev pub is_there : Contents → CutLine → Bool
is_there contents line = is_some (contents line.address)

abbrev line_at : List ℕ → List ℕ → CutLine
line_at name address = record { tile = name; address = address }

named_left : (contents : Contents) (name : List ℕ) (addresses : List (List ℕ))
    → map (line_at name) (filter (λ address. not (is_none (contents address))) addresses)
    ≡ filter (is_there contents) (map (line_at name) (filter (λ address. not false) addresses))
named_left contents name [] = refl
named_left contents name (address ∷ addresses) =
    elim (contents address) as (λ c. contents address ≡ c
    → map (line_at name) (filter (λ address. not (is_none (contents address))) (address ∷ addresses))
    ≡ filter (is_there contents)
    (map (line_at name) (filter (λ address. not false) (address ∷ addresses)))) [
      | None ↦ λ e. rw e (named_left contents name addresses)
      | Some bytes ↦ λ e.
          rw e (ap (λ lines. line_at name address ∷ lines) (named_left contents name addresses))
    ] refl

tile_left : (contents : Contents) (t : Tree)
    → lines_of (lacking contents) t ≡ filter (is_there contents) (lines_of nothing_absent t)
tile_left contents t = named_left contents (name_of t) (addresses_of t)

tiles_left : (contents : Contents) (ts : List Tree)
    → flat_map (lines_of (lacking contents)) ts
    ≡ filter (is_there contents) (flat_map (lines_of nothing_absent) ts)
tiles_left contents [] = refl
tiles_left contents (t ∷ ts) =
    ap (λ lines. lines ++ flat_map (lines_of (lacking contents)) ts) (tile_left contents t)
    ∙ ap (λ lines. filter (is_there contents) (lines_of nothing_absent t) ++ lines)
    (tiles_left contents ts)
    ∙ sym (filter-append (is_there contents) (lines_of nothing_absent t)
    (flat_map (lines_of nothing_absent) ts))

pub left_out : (view : ViewParts) (contents : Contents) (root : Option Tree)
    → IsLoaded view root
    → ideal view (lacking contents) root
    ≡ filter (is_there contents) (ideal view nothing_absent root)
left_out view contents root loaded =
    shows_what_stays view (lacking contents) root loaded
    ∙ tiles_left contents (filter (stays view) (visits view root))
    ∙ ap (filter (is_there contents)) (sym (shows_what_stays view nothing_absent root loaded))
