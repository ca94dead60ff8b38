use Rattle.std.proofs.Common.{◌∙◌, sym, ap, subst, List, IsTrue}
use Rattle.std.specs.Prelude.{All}
use Rattle.std.specs.List.{flat_map}
use Rattle.std.proofs.lemmas.Result.{err_from_is_err_and}
use Rattle.expanded_tree.specs.declared.node.Node.{Node}
use Rattle.cut_core.specs.Cut.{lines_of}
use Rattle.cut_core.proofs.Standings.{Stand-valid, Stand-flat_map}
use Rattle.cut_core.proofs.WholeWalks.{whole_err, whole_memory, whole_ok}
use Rattle.view_notes.proofs.look.look_at.Goals as goal

pub lines_shown-requires : goal.lines_shown-requires
lines_shown-requires g c =
    let s = g.T.TileTree.standing c.walk_whole.new.tree in
    let shown = c.in_ok-found.ensures.shown in
    let items = c.deref.ensures.value ∙ shown.added in
    subst (λ (ns : List Node). All (λ n. IsTrue (s.is_valid n)) ns) (sym items)
    (Stand-valid s shown.more _ shown.stand)

pub returns-clause-lines : goal.returns-clause-lines
returns-clause-lines g c =
    let s = g.T.TileTree.standing c.walk_whole.new.tree in
    let holdings = g.H.Holdings.holdings c.args.holdings.now in
    let shown = c.in_ok-found.ensures.shown in
    let items = c.deref.ensures.value ∙ shown.added in
    c.in_ok-lines.ensures ∙ ap (flat_map (λ (n : Node). lines_of holdings (s.node_tree n)))
    items ∙ Stand-flat_map (lines_of holdings) s shown.more _ shown.stand

pub returns-in_err-found-clause-walk : goal.returns-in_err-found-clause-walk
returns-in_err-found-clause-walk g c =
    let p = err_from_is_err_and c.from_residual.result c.from_residual.ensures.1 in
    rw (p.1, p.2) (whole_err _ c.in_err-found.ensures.walk)

pub returns-in_err-lines-clause-walk : goal.returns-in_err-lines-clause-walk
returns-in_err-lines-clause-walk g c =
    let p = err_from_is_err_and c.from_residual-in_err-lines.result
    c.from_residual-in_err-lines.ensures.1 in
    rw (p.1, p.2) (whole_memory _ c.in_ok-found.ensures.walk)

pub returns-in_err-notes-clause-walk : goal.returns-in_err-notes-clause-walk
returns-in_err-notes-clause-walk g c =
    let p = err_from_is_err_and c.from_residual-in_err-notes.result
    c.from_residual-in_err-notes.ensures.1 in
    rw (p.1, p.2) (whole_memory _ c.in_ok-found.ensures.walk)

pub returns-clause-walk : goal.returns-clause-walk
returns-clause-walk g c = whole_ok _ _ c.in_ok-found.ensures.walk
