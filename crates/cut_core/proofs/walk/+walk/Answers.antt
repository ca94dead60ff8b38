use Rattle.std.proofs.Common.{Err, ◌≡◌, ◌+◌, ◌*◌, ◌<◌, true, false, ◌||◌, Some, [], ◌∷◌, refl, sym, ◌∙◌, ap, rules, arith, length, length-append, take}
use Rattle.std.specs.List.{list_all}
use Rattle.std.proofs.lemmas.List.{take_all}
use Rattle.std.proofs.lemmas.Result.{err_from_is_err_and}
use Rattle.expanded_tree.specs.Tree.{tree_size, children_of}
use Rattle.expanded_tree.specs.Standing.{StandsFor}
use Rattle.expanded_tree.proofs.Trees.{child_size}
use Rattle.cut_core.specs.Cut.{adds, is_add, has_own, lacks_own, is_ready}
use Rattle.cut_core.specs.Walk.{Found, distance_by}
use Rattle.cut_core.proofs.Bools.{or_true, or_false}
use Rattle.cut_core.proofs.Lists.{all_more, add_agrees}
use Rattle.cut_core.proofs.CutSteps.{ready_adding, ready_replacing}
use Rattle.cut_core.proofs.Notes.{IsAnyValid-keeps, distance_by-keeps, measured_far, note_of}
use Rattle.cut_core.proofs.Links.{links_none, links_one, links_again, links_child, linked_culled, linked_alone, linked_wants, pending_wants}
use Rattle.cut_core.proofs.Walks.{counts_none, counts_some, children_more, node_culled, node_pending, node_end, node_wanting, opens_alone, stopped_here, stopped_opened, stopped_unopened, tile_adding, tile_refined, tile_coarse, walked_none, walks_ok, walks_memory, walks_refused, walks_below, walks_child, walks_behind}
use Rattle.cut_core.proofs.walk.+walk.Goals as goal

pub walk_children-loop-i-init : goal.walk_children-loop-i-init
walk_children-loop-i-init g t c = record {
  basis = refl;
  walked = walked_none c.args.context.now.view.now
      (g.H.Holdings.holdings c.args.context.now.holdings.now) _ _ c.requires.within;
  all = refl;
  at_hand = c.requires.at_hand;
  links = links_none c.args.context.now.view.now _ _ _ refl refl;
}

pub walk_children-walk_node-requires : goal.walk_children-walk_node-requires
walk_children-walk_node-requires g t c κs within =
    let s = g.T.TileTree.standing c.args.tree.now in
    let u = g.T.TileTree.standing c.loop-i.tree in
    let keeps = c.loop-i.invariant.walked.keeps in
    let small = child_size (u.node_tree c.args.tile.node) c.loop-i.i
    (u.node_tree c.child-child.result) c.child-child.ensures.tree in
    let same = ap tree_size (keeps.same c.args.tile.node c.requires.valid) in
    let smaller : 3 * tree_size (u.node_tree c.child-child.result) + 2 < 3 * tree_size
    (s.node_tree c.args.tile.node) = omega (arith, small, same) in
    let room = c.loop-i.invariant.walked.within in
    let up = IsAnyValid-keeps keeps c.args.tile.measured_by c.requires.above in
    search rules

pub walk_children-returns-in_err-ready-clause-walk :
    goal.walk_children-returns-in_err-ready-clause-walk
walk_children-returns-in_err-ready-clause-walk g t c =
    let view = c.args.context.now.view.now in
    let u = g.T.TileTree.standing c.loop-i.tree in
    let w = c.loop-i.invariant.walked in
    let e = rw (w.keeps.same c.args.tile.node c.requires.valid) at c.child-child.ensures.tree in
    let far = distance_by-keeps w.keeps view c.args.tile.measured_by c.requires.above in
    let p = err_from_is_err_and c.from_residual.result c.from_residual.ensures.1 in
    rw (p.1, p.2)
    (walks_child view (g.H.Holdings.holdings c.args.context.now.holdings.now) _ _ c.loop-i.i
    (u.node_tree c.child-child.result)
    _ e w (rw far at c.in_err-ready.ensures.walk))

pub walk_children-loop-i-preserved : goal.walk_children-loop-i-preserved
walk_children-loop-i-preserved g t c =
    let view = c.args.context.now.view.now in
    let holdings = g.H.Holdings.holdings c.args.context.now.holdings.now in
    let u = g.T.TileTree.standing c.loop-i.tree in
    let w = c.loop-i.invariant.walked in
    let e = rw (w.keeps.same c.args.tile.node c.requires.valid) at c.child-child.ensures.tree in
    let far = distance_by-keeps w.keeps view c.args.tile.measured_by c.requires.above in
    let walk = rw far at c.in_ok-ready.ensures.walk in
    let child = walk.ends in
    record {
      basis = c.walk_node.ensures.basis ∙ c.loop-i.invariant.basis;
      walked = children_more view holdings _ _ c.loop-i.i
          (u.node_tree c.child-child.result) e w child;
      all = all_more (is_ready view holdings) _ c.loop-i.i
          (u.node_tree c.child-child.result) _ _ e c.loop-i.invariant.all
          c.in_ok-ready.ensures.ready;
      at_hand = child.keeps.at_hand c.args.tile.node c.loop-i.invariant.at_hand;
      links = links_child view (Some c.args.tile.number) _ _ _ _ c.loop-i.i
          (u.node_tree c.child-child.result) e c.loop-i.invariant.links
          c.in_ok-ready.ensures.links;
    }

pub walk_node-returns-in_err-note-in-Pending-clause-walk :
    goal.walk_node-returns-in_err-note-in-Pending-clause-walk
walk_node-returns-in_err-note-in-Pending-clause-walk g t c =
    let p = err_from_is_err_and c.from_residual.result c.from_residual.ensures.1 in
    rw (p.1, p.2)
    (walks_refused c.args.context.now.view.now
    (g.H.Holdings.holdings c.args.context.now.holdings.now) _ _
    _ c.in-Pending.ensures.seen (λ e. c.in_err-note-in-Pending.ensures.too_large (ap Err e)))

pub walk_node-returns-in_err-note-in-Tile-clause-walk :
    goal.walk_node-returns-in_err-note-in-Tile-clause-walk
walk_node-returns-in_err-note-in-Tile-clause-walk g t c =
    let p = err_from_is_err_and c.from_residual-in_err-note-in-Tile.result
    c.from_residual-in_err-note-in-Tile.ensures.1 in
    rw (p.1, p.2)
    (walks_refused c.args.context.now.view.now
    (g.H.Holdings.holdings c.args.context.now.holdings.now) _ _
    _ c.in-Tile.ensures.seen (λ e. c.in_err-note-in-Tile.ensures.too_large (ap Err e)))

pub walk_node-returns-in_err-count-in-Tile-clause-walk :
    goal.walk_node-returns-in_err-count-in-Tile-clause-walk
walk_node-returns-in_err-count-in-Tile-clause-walk g t c =
    let p = err_from_is_err_and c.from_residual-in_err-count-in-Tile.result
    c.from_residual-in_err-count-in-Tile.ensures.1 in
    rw (p.1, p.2)
    (walks_memory c.args.context.now.view.now
    (g.H.Holdings.holdings c.args.context.now.holdings.now)
    (stopped_unopened c.args.context.now.view.now _ c.open_wanted.ensures.keeps
    c.in_err-count-in-Tile.ensures.err))

pub walk_node-returns-in_err-show_tile-in-Tile-clause-walk :
    goal.walk_node-returns-in_err-show_tile-in-Tile-clause-walk
walk_node-returns-in_err-show_tile-in-Tile-clause-walk g t c =
    let view = c.args.context.now.view.now in
    let here = (g.T.TileTree.standing c.args.tree.now).node_tree c.args.node in
    let p = err_from_is_err_and c.from_residual-in_err-show_tile-in-Tile.result
    c.from_residual-in_err-show_tile-in-Tile.ensures.1 in
    rw (p.1, p.2)
    (walks_memory view (g.H.Holdings.holdings c.args.context.now.holdings.now)
    (stopped_opened view _ here c.in-Tile.ensures.seen c.open_wanted.ensures.keeps
    (opens_alone view here c.in-Tile.may_want c.in-Tile.ensures.tile c.in-Tile.ensures.wants
    c.in_ok-count-in-Tile.ensures.opens)))

pub walk_node-returns-in_err-state-in-Tile-clause-walk :
    goal.walk_node-returns-in_err-state-in-Tile-clause-walk
walk_node-returns-in_err-state-in-Tile-clause-walk g t c =
    let view = c.args.context.now.view.now in
    let s = g.T.TileTree.standing c.args.tree.now in
    let here = s.node_tree c.args.node in
    let wanted = counts_some view here c.in-Tile.may_want c.in_ok-count-in-Tile.count
    c.in-Tile.ensures.wants c.in_ok-count-in-Tile.ensures.count (omega arith) in
    let keeps = c.open_wanted.ensures.keeps in
    let same = keeps.same c.args.node c.requires.valid in
    let m = c.measured_by-measured_by-in-Tile.ensures in
    let far = measured_far s _ view c.args.node c.args.above _ c.in-Tile.has_volume keeps m
    c.in-Tile.ensures.volume c.requires.valid c.requires.above in
    let p = err_from_is_err_and c.from_residual-in_err-state-in-Tile.result
    c.from_residual-in_err-state-in-Tile.ensures.1 in
    let visits = ap (λ (f : Found). length f.visits) c.in_ok-note-in-Tile.ensures.ok in
    let one = length-append c.args.found.now.visits.items
    (record {
      node = c.args.node;
      measured_by = c.measured_by-measured_by-in-Tile.result;
      parent = c.args.parent;
      wants = false;
      kept = true;
    } ∷ []) in
    rw (p.1, p.2)
    (walks_below view (g.H.Holdings.holdings c.args.context.now.holdings.now)
    (distance_by s view c.args.above) here
    _ c.in-Tile.ensures.seen wanted.0 keeps
    (opens_alone view here c.in-Tile.may_want c.in-Tile.ensures.tile c.in-Tile.ensures.wants
    c.in_ok-count-in-Tile.ensures.opens)
    (visits ∙ one) (rw (same, far) at c.in_err-state-in-Tile.ensures.walk))

pub walk_node-returns-in-Culled-clause-walk : goal.walk_node-returns-in-Culled-clause-walk
walk_node-returns-in-Culled-clause-walk g t c =
    walks_ok c.args.context.now.view.now (g.H.Holdings.holdings c.args.context.now.holdings.now) _
    (node_culled c.args.context.now.view.now
    (g.H.Holdings.holdings c.args.context.now.holdings.now) _ _ _ _ c.requires.within
    c.in-Culled.ensures)

pub walk_node-returns-in_ok-note-in-Pending-clause-walk :
    goal.walk_node-returns-in_ok-note-in-Pending-clause-walk
walk_node-returns-in_ok-note-in-Pending-clause-walk g t c =
    let view = c.args.context.now.view.now in
    let holdings = g.H.Holdings.holdings c.args.context.now.holdings.now in
    let s = g.T.TileTree.standing c.args.tree.now in
    let k = c.in-Pending.ensures in
    walks_ok view holdings _
    (node_pending view holdings _ _ (s.node_tree c.args.node) k.seen k.waits
    (λ keeps. note_of view holdings s c.args.node c.args.above _ c.in-Pending.has_volume
    c.args.parent false false
    c.measured_by-measured_by.ensures k.volume c.requires.valid c.requires.above keeps)
    c.in_ok-note-in-Pending.ensures.within c.in_ok-note-in-Pending.ensures.ok)

pub walk_node-returns-in_ok-state-in-Tile-clause-walk :
    goal.walk_node-returns-in_ok-state-in-Tile-clause-walk
walk_node-returns-in_ok-state-in-Tile-clause-walk g t c =
    let view = c.args.context.now.view.now in
    let holdings = g.H.Holdings.holdings c.args.context.now.holdings.now in
    let s = g.T.TileTree.standing c.args.tree.now in
    let here = s.node_tree c.args.node in
    let k = c.in-Tile.ensures in
    let wanted = counts_some view here c.in-Tile.may_want c.in_ok-count-in-Tile.count k.wants
    c.in_ok-count-in-Tile.ensures.count (omega arith) in
    let keeps = c.open_wanted.ensures.keeps in
    let same = keeps.same c.args.node c.requires.valid in
    let m = c.measured_by-measured_by-in-Tile.ensures in
    let far = measured_far s _ view c.args.node c.args.above _ c.in-Tile.has_volume keeps m k.volume
    c.requires.valid c.requires.above in
    let below = rw (same, far) at c.in_ok-state-in-Tile.ensures.walk in
    walks_ok view holdings _
    (node_wanting view holdings (distance_by s view c.args.above) _ _ here k.seen wanted.0 keeps
    (opens_alone view here c.in-Tile.may_want k.tile k.wants c.in_ok-count-in-Tile.ensures.opens)
    (note_of view holdings s c.args.node c.args.above _ c.in-Tile.has_volume
    c.args.parent true c.in_ok-state-in-Tile.state.kept m k.volume c.requires.valid c.requires.above
    (rw same at c.in_ok-state-in-Tile.ensures.kept))
    c.in_ok-note-in-Tile.ensures.ok below.ends
    (rw (sym (c.len-at.ensures ∙ c.args.found.now.visits.ok.0)) c.note_again.ensures))

pub walk_tile-returns-in_err-show-in-Add-clause-walk :
    goal.walk_tile-returns-in_err-show-in-Add-clause-walk
walk_tile-returns-in_err-show-in-Add-clause-walk g t c =
    let p = err_from_is_err_and c.from_residual.result c.from_residual.ensures.1 in
    rw (p.1, p.2)
    (walks_memory c.args.context.now.view.now
    (g.H.Holdings.holdings c.args.context.now.holdings.now)
    (stopped_here (g.T.TileTree.standing c.args.tree.now) c.args.context.now.view.now _))

pub walk_tile-returns-in_err-all-in-Add-clause-walk :
    goal.walk_tile-returns-in_err-all-in-Add-clause-walk
walk_tile-returns-in_err-all-in-Add-clause-walk g t c =
    let p = err_from_is_err_and c.from_residual-in_err-all-in-Add.result
    c.from_residual-in_err-all-in-Add.ensures.1 in
    rw (p.1, p.2)
    (walks_behind c.args.context.now.view.now
    (g.H.Holdings.holdings c.args.context.now.holdings.now) _
    (ap (λ (f : Found). length f.visits) c.in_ok-show-in-Add.ensures)
    c.in_err-all-in-Add.ensures.walk)

pub walk_tile-returns-in_err-all-in-Replace-clause-walk :
    goal.walk_tile-returns-in_err-all-in-Replace-clause-walk
walk_tile-returns-in_err-all-in-Replace-clause-walk g t c =
    let p = err_from_is_err_and c.from_residual-in_err-all-in-Replace.result
    c.from_residual-in_err-all-in-Replace.ensures.1 in
    rw (p.1, p.2)
    (walks_behind c.args.context.now.view.now
    (g.H.Holdings.holdings c.args.context.now.holdings.now) _
    refl c.in_err-all-in-Replace.ensures.walk)

pub walk_tile-returns-in_err-ready-in-Replace-clause-walk :
    goal.walk_tile-returns-in_err-ready-in-Replace-clause-walk
walk_tile-returns-in_err-ready-in-Replace-clause-walk g t c =
    let p = err_from_is_err_and c.from_residual-in_err-ready-in-Replace.result
    c.from_residual-in_err-ready-in-Replace.ensures.1 in
    rw (p.1, p.2) (walks_memory c.args.context.now.view.now
    (g.H.Holdings.holdings c.args.context.now.holdings.now)
    c.in_ok-all-in-Replace.ensures.walk.stopped)

pub walk_tile-returns-then-all-clause-ready : goal.walk_tile-returns-then-all-clause-ready
walk_tile-returns-then-all-clause-ready g t c =
    let view = c.args.context.now.view.now in
    let holdings = g.H.Holdings.holdings c.args.context.now.holdings.now in
    let here = (g.T.TileTree.standing c.args.tree.now).node_tree c.args.tile.node in
    let adds : adds here ≡ false = ap is_add (sym c.requires.refine) ∙ ap is_add c.in-Replace.is in
    let all : list_all (is_ready view holdings) (children_of here) ≡ true =
    sym c.in_ok-all-in-Replace.ensures.ready ∙ c.if-all.true in
    sym (ready_replacing view holdings here c.requires.wanting.seen c.requires.wanting.wants adds
    ∙ ap (λ b. has_own holdings here || b) all ∙ or_true (has_own holdings here))

pub walk_tile-returns-then-all-clause-walk : goal.walk_tile-returns-then-all-clause-walk
walk_tile-returns-then-all-clause-walk g t c =
    let view = c.args.context.now.view.now in
    let holdings = g.H.Holdings.holdings c.args.context.now.holdings.now in
    let here = (g.T.TileTree.standing c.args.tree.now).node_tree c.args.tile.node in
    let adds : adds here ≡ false = ap is_add (sym c.requires.refine) ∙ ap is_add c.in-Replace.is in
    let all : list_all (is_ready view holdings) (children_of here) ≡ true =
    sym c.in_ok-all-in-Replace.ensures.ready ∙ c.if-all.true in
    walks_ok view holdings _
    (tile_refined view holdings _ here c.requires.wanting.seen c.requires.wanting.wants adds
    (ap (λ b. b || lacks_own holdings here) all) c.in_ok-all-in-Replace.ensures.walk.ends)

pub walk_tile-returns-in_ok-all-in-Add-clause-ready :
    goal.walk_tile-returns-in_ok-all-in-Add-clause-ready
walk_tile-returns-in_ok-all-in-Add-clause-ready g t c =
    let here = (g.T.TileTree.standing c.args.tree.now).node_tree c.args.tile.node in
    let adds : adds here ≡ true = ap is_add (sym c.requires.refine) ∙ ap is_add c.in-Add.is in
    add_agrees _ _ _ _ _ _ c.own_of-own.ensures.resident c.own_of-own.ensures.lacking
    c.in_ok-all-in-Add.ensures.ready
    ∙ sym (ready_adding c.args.context.now.view.now
    (g.H.Holdings.holdings c.args.context.now.holdings.now) here c.requires.wanting.seen
    c.requires.wanting.wants adds)

pub walk_tile-returns-in_ok-all-in-Add-clause-walk :
    goal.walk_tile-returns-in_ok-all-in-Add-clause-walk
walk_tile-returns-in_ok-all-in-Add-clause-walk g t c =
    let s = g.T.TileTree.standing c.args.tree.now in
    let here = s.node_tree c.args.tile.node in
    let stand : StandsFor s c.args.tile.node here =
    record { valid = c.requires.valid; tree = refl } in
    let adds : adds here ≡ true = ap is_add (sym c.requires.refine) ∙ ap is_add c.in-Add.is in
    walks_ok c.args.context.now.view.now (g.H.Holdings.holdings c.args.context.now.holdings.now) _
    (tile_adding c.args.context.now.view.now
    (g.H.Holdings.holdings c.args.context.now.holdings.now) _ c.args.tile.node here
    c.own_of-own.result.resident
    c.requires.wanting.seen c.requires.wanting.wants adds c.requires.within stand
    c.own_of-own.ensures.resident c.in_ok-show-in-Add.ensures c.in_ok-all-in-Add.ensures.walk.ends)

pub walk_tile-returns-in_ok-ready-in-Replace-clause-ready :
    goal.walk_tile-returns-in_ok-ready-in-Replace-clause-ready
walk_tile-returns-in_ok-ready-in-Replace-clause-ready g t c =
    let view = c.args.context.now.view.now in
    let holdings = g.H.Holdings.holdings c.args.context.now.holdings.now in
    let s = g.T.TileTree.standing c.args.tree.now in
    let here = s.node_tree c.args.tile.node in
    let adds : adds here ≡ false = ap is_add (sym c.requires.refine) ∙ ap is_add c.in-Replace.is in
    let not_all : list_all (is_ready view holdings) (children_of here) ≡ false =
    sym c.in_ok-all-in-Replace.ensures.ready ∙ c.if-all.false in
    let walked = c.in_ok-all-in-Replace.ensures.walk.ends in
    let same = walked.keeps.same c.args.tile.node c.requires.valid in
    (rw same at c.in_ok-ready-in-Replace.ensures.ready)
    ∙ sym (ready_replacing view holdings here c.requires.wanting.seen c.requires.wanting.wants adds
    ∙ ap (λ b. has_own holdings here || b) not_all ∙ or_false (has_own holdings here))

pub walk_tile-returns-in_ok-ready-in-Replace-clause-walk :
    goal.walk_tile-returns-in_ok-ready-in-Replace-clause-walk
walk_tile-returns-in_ok-ready-in-Replace-clause-walk g t c =
    let view = c.args.context.now.view.now in
    let holdings = g.H.Holdings.holdings c.args.context.now.holdings.now in
    let s = g.T.TileTree.standing c.args.tree.now in
    let here = s.node_tree c.args.tile.node in
    let stand : StandsFor s c.args.tile.node here =
    record { valid = c.requires.valid; tree = refl } in
    let adds : adds here ≡ false = ap is_add (sym c.requires.refine) ∙ ap is_add c.in-Replace.is in
    let not_all : list_all (is_ready view holdings) (children_of here) ≡ false =
    sym c.in_ok-all-in-Replace.ensures.ready ∙ c.if-all.false in
    let walked = c.in_ok-all-in-Replace.ensures.walk.ends in
    let same = walked.keeps.same c.args.tile.node c.requires.valid in
    let start = c.len-before.ensures ∙ c.args.found.now.shown.ok.0 in
    walks_ok view holdings _
    (tile_coarse view holdings _ c.args.tile.node here c.requires.wanting.seen
    c.requires.wanting.wants adds not_all stand
    walked c.in_ok-ready-in-Replace.ensures.visits
    (rw same at (rw start at c.in_ok-ready-in-Replace.ensures.shows)))

pub walk_children-returns-clause-walk : goal.walk_children-returns-clause-walk
walk_children-returns-clause-walk g t c =
    let view = c.args.context.now.view.now in
    let holdings = g.H.Holdings.holdings c.args.context.now.holdings.now in
    let children = children_of ((g.T.TileTree.standing c.args.tree.now).node_tree c.args.tile.node)
    in
    let whole : take c.loop-i.i children ≡ children =
    take_all c.loop-i.i children (omega (arith, c.requires.count)) in
    walks_ok view holdings _ (rw whole at c.loop-i.invariant.walked)

pub walk_node-returns-then-count-eq0-clause-walk : goal.walk_node-returns-then-count-eq0-clause-walk
walk_node-returns-then-count-eq0-clause-walk g t c =
    let view = c.args.context.now.view.now in
    let holdings = g.H.Holdings.holdings c.args.context.now.holdings.now in
    let s = g.T.TileTree.standing c.args.tree.now in
    let here = s.node_tree c.args.node in
    let k = c.in-Tile.ensures in
    let keeps = c.open_wanted.ensures.keeps in
    let same = keeps.same c.args.node c.requires.valid in
    let unwanted = counts_none view here c.in-Tile.may_want k.wants
    (sym c.in_ok-count-in-Tile.ensures.count ∙ c.if-count-eq0.true) in
    walks_ok view holdings _
    (node_end view holdings (distance_by s view c.args.above) _ here
    (has_own holdings here) k.tile k.seen unwanted keeps
    (opens_alone view here c.in-Tile.may_want k.tile k.wants c.in_ok-count-in-Tile.ensures.opens)
    (λ kept. note_of view holdings s c.args.node c.args.above _ c.in-Tile.has_volume
    c.args.parent false true
    c.measured_by-measured_by-in-Tile.ensures k.volume c.requires.valid c.requires.above kept)
    c.in_ok-note-in-Tile.ensures.within c.in_ok-note-in-Tile.ensures.ok refl
    (rw same at c.in_ok-show_tile-in-Tile.ensures.shows))

pub walk_node-returns-in-Culled-clause-links : goal.walk_node-returns-in-Culled-clause-links
walk_node-returns-in-Culled-clause-links g t c =
    let view = c.args.context.now.view.now in
    let here = (g.T.TileTree.standing c.args.tree.now).node_tree c.args.node in
    links_none view _ _ _ refl
    (linked_culled view c.args.parent (length c.args.found.now.visits.items) here
    c.in-Culled.ensures)

pub walk_node-returns-in_ok-note-in-Pending-clause-links :
    goal.walk_node-returns-in_ok-note-in-Pending-clause-links
walk_node-returns-in_ok-note-in-Pending-clause-links g t c =
    let view = c.args.context.now.view.now in
    let here = (g.T.TileTree.standing c.args.tree.now).node_tree c.args.node in
    let k = c.in-Pending.ensures in
    let unwanted = pending_wants view here k.waits in
    links_one view _ _ _ _ c.args.parent here
    (ap (λ (f : Found). f.visits) c.in_ok-note-in-Pending.ensures.ok)
    refl (sym unwanted)
    (linked_alone view c.args.parent (length c.args.found.now.visits.items) here k.seen unwanted)

pub walk_node-returns-then-count-eq0-clause-links :
    goal.walk_node-returns-then-count-eq0-clause-links
walk_node-returns-then-count-eq0-clause-links g t c =
    let view = c.args.context.now.view.now in
    let here = (g.T.TileTree.standing c.args.tree.now).node_tree c.args.node in
    let k = c.in-Tile.ensures in
    let unwanted = counts_none view here c.in-Tile.may_want k.wants
    (sym c.in_ok-count-in-Tile.ensures.count ∙ c.if-count-eq0.true) in
    links_one view _ _ _ _ c.args.parent here
    (ap (λ (f : Found). f.visits) c.in_ok-show_tile-in-Tile.ensures.shows
    ∙ ap (λ (f : Found). f.visits) c.in_ok-note-in-Tile.ensures.ok)
    refl (sym unwanted)
    (linked_alone view c.args.parent (length c.args.found.now.visits.items) here k.seen unwanted)

pub walk_node-returns-in_ok-state-in-Tile-clause-links :
    goal.walk_node-returns-in_ok-state-in-Tile-clause-links
walk_node-returns-in_ok-state-in-Tile-clause-links g t c =
    let view = c.args.context.now.view.now in
    let here = (g.T.TileTree.standing c.args.tree.now).node_tree c.args.node in
    let k = c.in-Tile.ensures in
    let wanted = counts_some view here c.in-Tile.may_want c.in_ok-count-in-Tile.count k.wants
    c.in_ok-count-in-Tile.ensures.count (omega arith) in
    let same = c.open_wanted.ensures.keeps.same c.args.node c.requires.valid in
    let start : c.len-at.result ≡ length c.args.found.now.visits.items =
    c.len-at.ensures ∙ c.args.found.now.visits.ok.0 in
    let one = ap (λ (f : Found). f.visits) c.in_ok-note-in-Tile.ensures.ok in
    let long : length c.note-in-Tile.new.self.visits.items
    ≡ length c.args.found.now.visits.items + 1 =
    ap length one ∙ length-append c.args.found.now.visits.items _ in
    links_again view _ _ _ _ _ _ _ _ c.args.parent here one
    (rw (same, start, long) at c.in_ok-state-in-Tile.ensures.links)
    (rw start at (ap (λ (f : Found). f.visits) c.note_again.ensures))
    refl (sym wanted.0)
    (linked_wants view c.args.parent (length c.args.found.now.visits.items) here k.seen wanted.0)

pub walk_tile-returns-in_ok-all-in-Add-clause-links :
    goal.walk_tile-returns-in_ok-all-in-Add-clause-links
walk_tile-returns-in_ok-all-in-Add-clause-links g t c =
    rw (ap (λ (f : Found). f.visits) c.in_ok-show-in-Add.ensures)
    at c.in_ok-all-in-Add.ensures.links

pub walk_tile-returns-in_ok-ready-in-Replace-clause-links :
    goal.walk_tile-returns-in_ok-ready-in-Replace-clause-links
walk_tile-returns-in_ok-ready-in-Replace-clause-links g t c =
    rw c.in_ok-ready-in-Replace.ensures.visits c.in_ok-all-in-Replace.ensures.links

pub walk_children-returns-clause-links : goal.walk_children-returns-clause-links
walk_children-returns-clause-links g t c =
    let children = children_of ((g.T.TileTree.standing c.args.tree.now).node_tree c.args.tile.node)
    in
    let whole : take c.loop-i.i children ≡ children =
    take_all c.loop-i.i children (omega (arith, c.requires.count)) in
    rw whole at c.loop-i.invariant.links
