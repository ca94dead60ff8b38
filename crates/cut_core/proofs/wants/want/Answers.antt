use Rattle.std.proofs.Common.{◌∙◌, sym, ap, subst, List, [], fold, map, Err, Ok}
use Rattle.std.specs.Prelude.{All}
use Rattle.std.specs.List.{IsDistinct, flat_map}
use Rattle.std.proofs.lemmas.Result.{err_from_is_err_and}
use Rattle.tile_types.specs.declared.want.Want.{Want}
use Rattle.tile_types.specs.Keys.{same_key}
use Rattle.cut_core.specs.declared.findings.Visit.{Visit}
use Rattle.cut_core.specs.Noted.{IsNoteValid, wants_noted}
use Rattle.cut_core.specs.Wants.{with_want}
use Rattle.cut_core.proofs.Distances.{trees_visited}
use Rattle.cut_core.proofs.Notes.{AreNotesOf-valid, AreNotesOf-wants}
use Rattle.cut_core.proofs.Wanting.{key_at, once_distinct, unless_within}
use Rattle.cut_core.proofs.WholeWalks.{whole_err, whole_memory, whole_ok}
use Rattle.cut_core.proofs.wants.want.Goals as goal

pub wants_of_visits-requires : goal.wants_of_visits-requires
wants_of_visits-requires g c =
    let s = g.T.TileTree.standing c.walk_whole.new.tree in
    let noted = c.in_ok-found.ensures.noted in
    let items = c.deref.ensures.value ∙ noted.added in
    subst (λ (vs : List Visit). All (λ v. IsNoteValid s v) vs) (sym items)
    (AreNotesOf-valid c.args.view.now (g.H.Holdings.holdings c.args.holdings.now) s noted.more _
    noted.notes)

pub returns-in_err-found-clause-walk : goal.returns-in_err-found-clause-walk
returns-in_err-found-clause-walk g c =
    let p = err_from_is_err_and c.from_residual.result c.from_residual.ensures.1 in
    rw (p.1, p.2) (whole_err _ c.in_err-found.ensures.walk)

pub returns-in_err-wants-clause-walk : goal.returns-in_err-wants-clause-walk
returns-in_err-wants-clause-walk g c =
    let p = err_from_is_err_and c.from_residual-in_err-wants.result
    c.from_residual-in_err-wants.ensures.1 in
    rw (p.1, p.2) (whole_memory _ c.in_ok-found.ensures.walk)

pub returns-in_err-into_list-clause-walk : goal.returns-in_err-into_list-clause-walk
returns-in_err-into_list-clause-walk g c =
    let p = err_from_is_err_and c.from_residual-in_err-into_list.result
    c.from_residual-in_err-into_list.ensures.1 in
    rw (p.1, p.2) (whole_memory _ c.in_ok-found.ensures.walk)

pub returns-clause-walk : goal.returns-clause-walk
returns-clause-walk g c = whole_ok _ _ c.in_ok-found.ensures.walk

pub returns-clause-wants : goal.returns-clause-wants
returns-clause-wants g c =
    let view = c.args.view.now in
    let holdings = g.H.Holdings.holdings c.args.holdings.now in
    let s = g.T.TileTree.standing c.walk_whole.new.tree in
    let noted = c.in_ok-found.ensures.noted in
    let items = c.deref.ensures.value ∙ noted.added in
    c.in_ok-into_list.ensures ∙ c.in_ok-wants.ensures
    ∙ ap (λ (vs : List Visit). fold with_want [] (flat_map (wants_noted s view holdings) vs)) items
    ∙ ap (fold with_want []) (AreNotesOf-wants view holdings s noted.more _ noted.notes)
    ∙ sym (unless_within view (g.T.TileTree.standing c.args.tree.now).tree _
    c.in_ok-found.ensures.walk.ends.within)

pub returns-clause-apart : goal.returns-clause-apart
returns-clause-apart g c =
    let noted = wants_noted (g.T.TileTree.standing c.walk_whole.new.tree) c.args.view.now
    (g.H.Holdings.holdings c.args.holdings.now) in
    let once = c.in_ok-into_list.ensures ∙ c.in_ok-wants.ensures in
    subst (λ (ws : List Want). IsDistinct same_key (map key_at ws)) (sym once)
    (once_distinct (flat_map noted c.deref.result.now))

pub returns-in_err-found-clause-nodes : goal.returns-in_err-found-clause-nodes
returns-in_err-found-clause-nodes g c = trees_visited c.args.view.now
    (g.T.TileTree.standing c.args.tree.now).tree

pub returns-in_err-wants-clause-nodes : goal.returns-in_err-wants-clause-nodes
returns-in_err-wants-clause-nodes g c = trees_visited c.args.view.now
    (g.T.TileTree.standing c.args.tree.now).tree

pub returns-in_err-into_list-clause-nodes : goal.returns-in_err-into_list-clause-nodes
returns-in_err-into_list-clause-nodes g c =
    trees_visited c.args.view.now (g.T.TileTree.standing c.args.tree.now).tree

pub returns-clause-nodes : goal.returns-clause-nodes
returns-clause-nodes g c = trees_visited c.args.view.now
    (g.T.TileTree.standing c.args.tree.now).tree
