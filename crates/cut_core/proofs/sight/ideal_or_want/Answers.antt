use Rattle.std.proofs.Common.{◌≡◌, ◌∙◌, sym, ap, subst, List, [], fold, IsTrue}
use Rattle.std.specs.Prelude.{All}
use Rattle.std.specs.List.{flat_map}
use Rattle.std.proofs.lemmas.Result.{err_from_is_err_and}
use Rattle.expanded_tree.specs.declared.node.Node.{Node}
use Rattle.cut_core.specs.declared.findings.Visit.{Visit}
use Rattle.cut_core.specs.Cut.{Holdings, lines_of, with_all}
use Rattle.cut_core.specs.Noted.{IsNoteValid, wants_noted}
use Rattle.cut_core.specs.Wants.{wanted, with_want}
use Rattle.cut_core.proofs.Notes.{AreNotesOf-valid, AreNotesOf-wants}
use Rattle.cut_core.proofs.Standings.{Stand-valid, Stand-flat_map}
use Rattle.cut_core.proofs.Unpending.{nothing_wanted}
use Rattle.cut_core.proofs.Wanting.{unless_within}
use Rattle.cut_core.proofs.WholeWalks.{whole_err, whole_memory, whole_ok}
use Rattle.cut_core.proofs.sight.ideal_or_want.Goals as goal

pub wants_of_visits-requires : goal.wants_of_visits-requires
wants_of_visits-requires g c =
    let s = g.T.TileTree.standing c.walk_whole.new.tree in
    let noted = c.in_ok-found.ensures.noted in
    let items = c.deref.ensures.value ∙ noted.added in
    subst (λ (vs : List Visit). All (λ v. IsNoteValid s v) vs) (sym items)
    (AreNotesOf-valid c.args.view.now (with_all (g.H.Holdings.holdings c.args.holdings.now)) s
    noted.more _ noted.notes)

pub lines_shown-requires : goal.lines_shown-requires
lines_shown-requires g c =
    let s = g.T.TileTree.standing c.walk_whole.new.tree in
    let shown = c.in_ok-found.ensures.shown in
    let items = c.deref-2.ensures.value ∙ shown.added in
    subst (λ (ns : List Node). All (λ n. IsTrue (s.is_valid n)) ns) (sym items)
    (Stand-valid s shown.more _ shown.stand)

pub returns-then-not-is_empty-clause-sees : goal.returns-then-not-is_empty-clause-sees
returns-then-not-is_empty-clause-sees g c =
    let view = c.args.view.now in
    let holdings = with_all (g.H.Holdings.holdings c.args.holdings.now) in
    let s = g.T.TileTree.standing c.walk_whole.new.tree in
    let noted = c.in_ok-found.ensures.noted in
    let items = c.deref.ensures.value ∙ noted.added in
    c.in_ok-wants.ensures ∙ c.in_ok-wants_of_visits.ensures
    ∙ ap (λ (vs : List Visit). fold with_want [] (flat_map (wants_noted s view holdings) vs)) items
    ∙ ap (fold with_want []) (AreNotesOf-wants view holdings s noted.more _ noted.notes)
    ∙ sym (unless_within view (g.T.TileTree.standing c.args.tree.now).tree _
    c.in_ok-found.ensures.walk.ends.within)

pub returns-clause-sees : goal.returns-clause-sees
returns-clause-sees g c =
    let view = c.args.view.now in
    let holdings = with_all (g.H.Holdings.holdings c.args.holdings.now) in
    let root = (g.T.TileTree.standing c.args.tree.now).tree in
    let s = g.T.TileTree.standing c.walk_whole.new.tree in
    let noted = c.in_ok-found.ensures.noted in
    let within = c.in_ok-found.ensures.walk.ends.within in
    let visited = c.deref.ensures.value ∙ noted.added in
    let wants : c.in_ok-wants.wants ≡ wanted view holdings root =
    c.in_ok-wants.ensures ∙ c.in_ok-wants_of_visits.ensures
    ∙ ap (λ (vs : List Visit). fold with_want [] (flat_map (wants_noted s view holdings) vs))
    visited
    ∙ ap (fold with_want []) (AreNotesOf-wants view holdings s noted.more _ noted.notes)
    ∙ sym (unless_within view root _ within) in
    let shown = c.in_ok-found.ensures.shown in
    let items = c.deref-2.ensures.value ∙ shown.added in (
      nothing_wanted view holdings root within
          (sym wants ∙ c.is_empty.ensures.0 c.if-not-is_empty.false),
      c.in_ok-lines_shown.ensures
          ∙ ap (flat_map (λ (n : Node). lines_of holdings (s.node_tree n))) items
          ∙ Stand-flat_map (lines_of holdings) s shown.more _ shown.stand,
    )

pub returns-in_err-found-clause-walk : goal.returns-in_err-found-clause-walk
returns-in_err-found-clause-walk g c =
    let p = err_from_is_err_and c.from_residual.result c.from_residual.ensures.1 in
    rw (p.1, p.2) (whole_err _ c.in_err-found.ensures.walk)
