use Rattle.std.proofs.Common.{None, ◌∙◌, ap, sym, length, arith}
use Rattle.std.proofs.lemmas.Result.{err_from_is_err_and}
use Rattle.cut_core.specs.Cut.{from_root}
use Rattle.cut_core.specs.Linked.{linked_nodes}
use Rattle.cut_core.specs.Visits.{visits}
use Rattle.cut_core.specs.Walk.{Found}
use Rattle.cut_core.proofs.Distances.{length-measured_nodes}
use Rattle.cut_core.proofs.Links.{links_none}
use Rattle.cut_core.proofs.Notes.{NotesMore-length}
use Rattle.cut_core.proofs.WholeWalks.{whole_empty, whole_stopped, whole_unopened, whole_walked}
use Rattle.cut_core.proofs.walk.walk_whole.Goals as goal

pub returns-in_err-root-clause-walk : goal.returns-in_err-root-clause-walk
returns-in_err-root-clause-walk g c =
    let p = err_from_is_err_and c.from_residual.result c.from_residual.ensures.1 in
    rw (p.1, p.2) (whole_unopened c.args.view.now _ _ c.top.ensures.tree c.top.ensures.opened)

pub returns-in_default-clause-walk : goal.returns-in_default-clause-walk
returns-in_default-clause-walk g c =
    let root = rw c.in_default.is at c.in_ok-root.ensures.root in
    whole_empty _ c.args.view.now _ _ c.top.ensures.tree root c.top.ensures.opened

pub returns-in_err-walk_node-clause-walk : goal.returns-in_err-walk_node-clause-walk
returns-in_err-walk_node-clause-walk g c =
    let root = rw c.in-Some.is at c.in_ok-root.ensures.root in
    let p = err_from_is_err_and c.from_residual-in_err-walk_node.result
    c.from_residual-in_err-walk_node.ensures.1 in
    rw (p.1, p.2)
    (whole_stopped c.args.view.now (g.H.Holdings.holdings c.args.holdings.now) _ _ _ _ _ _ _
    c.top.ensures.tree root.1 c.top.ensures.opened
    (ap (λ (f : Found). length f.visits) c.new-found.ensures) _ c.in_err-walk_node.ensures.walk)

pub returns-clause-walk : goal.returns-clause-walk
returns-clause-walk g c =
    let root = rw c.in-Some.is at c.in_ok-root.ensures.root in
    whole_walked c.args.view.now (g.H.Holdings.holdings c.args.holdings.now) _ _ _ _ _ _ _
    c.top.ensures.tree root.1 c.top.ensures.opened
    (ap (λ (f : Found). length f.visits) c.new-found.ensures) _ c.in_ok-walk_node.ensures.walk.ends

pub returns-clause-count : goal.returns-clause-count
returns-clause-count g c =
    let view = c.args.view.now in
    let holdings = g.H.Holdings.holdings c.args.holdings.now in
    let root = rw c.in-Some.is at c.in_ok-root.ensures.root in
    let walked = c.in_ok-walk_node.ensures.walk.ends in
    let seen = NotesMore-length view holdings _ _ _ walked.notes in
    let t = (g.T.TileTree.standing c.top.new.self).node_tree c.in-Some.root in
    let none = ap (λ (f : Found). length f.visits) c.new-found.ensures in
    let same = ap (λ t. length (visits view t)) (sym root.1 ∙ c.top.ensures.tree) in
    omega (arith, seen, none, same, length-measured_nodes view 0 t)

pub returns-in_default-clause-links : goal.returns-in_default-clause-links
returns-in_default-clause-links g c =
    let root = rw c.in_default.is at c.in_ok-root.ensures.root in
    links_none c.args.view.now _ _ _ (ap (λ (f : Found). f.visits) c.new-found.ensures)
    (ap (from_root (linked_nodes c.args.view.now None 0)) (sym c.top.ensures.tree ∙ root))

pub returns-clause-links : goal.returns-clause-links
returns-clause-links g c =
    let root = rw c.in-Some.is at c.in_ok-root.ensures.root in
    let none = ap (λ (f : Found). f.visits) c.new-found.ensures in
    rw (sym c.top.ensures.tree ∙ root.1) (rw none at c.in_ok-walk_node.ensures.links)
