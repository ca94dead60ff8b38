use Rattle.std.proofs.lemmas.List.Elements.{All-from_recursion}
use Rattle.cut_core.specs.Cut.{cut}
use Rattle.engine_state.specs.Frames.{frame_lines, holdings, tree}
use Rattle.engine_state.specs.Journal.{replay}
use Rattle.engine_state.proofs.Libraries.{IsFrom, lines_from_library, residents_along}
use Rattle.engine_state.proofs.laws.shown_contents_are_the_librarys.Goals as goal

pub returns : goal.returns
returns c = λ library before a view.
    All-from_recursion (λ l. IsFrom library l.address l.facts) (frame_lines (replay before) view)
    (lines_from_library library (replay before).residents
    (cut view (holdings (replay before)) (tree (replay before)))
    (residents_along library before a))
