use Rattle.std.proofs.Common.{◌∙◌, sym, ap, subst, List, map}
use Rattle.std.specs.Prelude.{All}
use Rattle.std.specs.List.{flat_map}
use Rattle.std.proofs.lemmas.Result.{err_from_is_err_and}
use Rattle.tile_types.specs.declared.key.Key.{Key}
use Rattle.cut_core.specs.declared.findings.Visit.{Visit}
use Rattle.cut_core.specs.Laws.{KeepsShown}
use Rattle.cut_core.specs.Noted.{IsNoteValid}
use Rattle.cut_core.specs.Visits.{content_key, kept_contents}
use Rattle.cut_core.proofs.Distances.{trees_visited}
use Rattle.cut_core.proofs.Keeping.{keeps_shown}
use Rattle.cut_core.proofs.Notes.{AreNotesOf-valid, AreNotesOf-kept, kept_noted}
use Rattle.cut_core.proofs.Wanting.{unless_within}
use Rattle.cut_core.proofs.WholeWalks.{whole_err, whole_memory, whole_ok}
use Rattle.cut_core.proofs.keeps.keep.Goals as goal

pub keys_kept-requires : goal.keys_kept-requires
keys_kept-requires g c =
    let s = g.T.TileTree.standing c.walk_whole.new.tree in
    let noted = c.in_ok-found.ensures.noted in
    let items = c.deref.ensures.value ∙ noted.added in
    subst (λ (vs : List Visit). All (λ v. IsNoteValid s v) vs) (sym items)
    (AreNotesOf-valid c.args.view.now (g.H.Holdings.holdings c.args.holdings.now) s noted.more _
    noted.notes)

pub returns-in_err-found-clause-walk : goal.returns-in_err-found-clause-walk
returns-in_err-found-clause-walk g c =
    let p = err_from_is_err_and c.from_residual.result c.from_residual.ensures.1 in
    rw (p.1, p.2) (whole_err _ c.in_err-found.ensures.walk)

pub returns-in_err-keys_kept-clause-walk : goal.returns-in_err-keys_kept-clause-walk
returns-in_err-keys_kept-clause-walk g c =
    let p = err_from_is_err_and c.from_residual-in_err-keys_kept.result
    c.from_residual-in_err-keys_kept.ensures.1 in
    rw (p.1, p.2) (whole_memory _ c.in_ok-found.ensures.walk)

pub returns-clause-walk : goal.returns-clause-walk
returns-clause-walk g c = whole_ok _ _ c.in_ok-found.ensures.walk

pub returns-clause-keys : goal.returns-clause-keys
returns-clause-keys g c =
    let view = c.args.view.now in
    let holdings = g.H.Holdings.holdings c.args.holdings.now in
    let s = g.T.TileTree.standing c.walk_whole.new.tree in
    let root = (g.T.TileTree.standing c.args.tree.now).tree in
    let noted = c.in_ok-found.ensures.noted in
    let items = c.deref.ensures.value ∙ noted.added in
    c.in_ok-keys_kept.ensures
    ∙ ap (map content_key)
    (ap (flat_map (kept_noted view holdings s)) items
    ∙ AreNotesOf-kept view holdings s noted.more _ noted.notes
    ∙ ap (flat_map (kept_contents view holdings)) (trees_visited view root))
    ∙ sym (unless_within view root _ c.in_ok-found.ensures.walk.ends.within)

pub returns-clause-shown : goal.returns-clause-shown
returns-clause-shown g c =
    let view = c.args.view.now in
    let holdings = g.H.Holdings.holdings c.args.holdings.now in
    let root = (g.T.TileTree.standing c.args.tree.now).tree in
    let keys = returns-clause-keys g c ∙ unless_within view root _
    c.in_ok-found.ensures.walk.ends.within in
    subst (λ (ks : List Key). KeepsShown view holdings root ks) (sym keys)
    (keeps_shown view holdings root)
