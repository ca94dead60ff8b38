use Rattle.std.proofs.Common.{◌∙◌, ap, sym}
use Rattle.implicit_walk.specs.Presences.{presence_of}
use Rattle.implicit_walk.proofs.Knowing.{tile_beside}
use Rattle.implicit_walk.proofs.presence.exists_below.Goals as goal

pub returns-then-not-begins_subtree-clause-value :
    goal.returns-then-not-begins_subtree-clause-value
returns-then-not-begins_subtree-clause-value g c =
    c.presence_of.ensures
    ∙ ap presence_of c.has_tile.ensures.value
    ∙ sym (tile_beside c.args.root.now (g.T.Subtrees.found c.args.trees.now) c.args.at
    c.args.subtree.now c.requires.level
    (sym c.begins_subtree.ensures ∙ c.if-not-begins_subtree.true) c.requires.above)
