use Rattle.std.proofs.Common.{◌∙◌}
use Rattle.view_notes.proofs.Visited.{firsts_few, firsts_placed, visits_noted, visits_valid}
use Rattle.view_notes.proofs.look.notes_found.Goals as goal

pub from_visits-requires : goal.from_visits-requires
from_visits-requires g c =
    visits_valid (g.T.TileTree.standing c.args.tree.now) c.args.view.now
    (g.H.Holdings.holdings c.args.holdings.now) c.args.visits.now c.requires

pub from_lists-requires-clause-few : goal.from_lists-requires-clause-few
from_lists-requires-clause-few g c =
    rw c.in_ok-lists.ensures.notes
    (firsts_few (g.T.TileTree.standing c.args.tree.now) c.args.view.now
    (g.H.Holdings.holdings c.args.holdings.now) c.args.visits.now c.requires)

pub from_lists-requires-clause-placed : goal.from_lists-requires-clause-placed
from_lists-requires-clause-placed g c =
    rw c.in_ok-lists.ensures.notes
    (firsts_placed (g.T.TileTree.standing c.args.tree.now) c.args.view.now
    (g.H.Holdings.holdings c.args.holdings.now) c.args.visits.now c.requires)

pub returns : goal.returns
returns g c =
    let made = c.in_ok-from_lists.ensures in
    let lists = c.in_ok-lists.ensures in
    let are = visits_noted (g.T.TileTree.standing c.args.tree.now) c.args.view.now
    (g.H.Holdings.holdings c.args.holdings.now) c.args.visits.now c.requires
    c.in_ok-from_lists.field-0.notes (rw lists.notes at made.fixed) made.agree in
    record {
      notes = are.notes;
      names = made.names ∙ lists.names ∙ are.names;
      ranks = made.ranks ∙ lists.ranks ∙ are.ranks;
      keys = made.keys ∙ lists.keys ∙ are.keys;
    }
