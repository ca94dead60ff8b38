use Rattle.std.proofs.Common.{◌∙◌, Some, ap, sym}
use Rattle.plain_tree.specs.Standing.{standing_of}
use Rattle.tile_metadata.specs.declared.held.Held.TheVariants.{Read, Refused, Without}
use Rattle.tile_metadata.proofs.Causes.{caused}
use Rattle.tile_metadata.proofs.schemas.check_node.Goals as goal

pub returns-in-Some-Refused : goal.returns-in-Some-Refused
returns-in-Some-Refused c =
    caused c.args.tree.now.store c.args.store.now c.requires.stored c.in-Some.place
    c.args.schemas.now.held.items c.requires.kept
    ((standing_of c.args.tree.now).node_tree c.args.node) c.in-Some.ensures
    (Refused c.in-Some-Refused.cause)
    (sym c.in-Some-Refused.ensures ∙ ap Some c.in-Some-Refused.field-0-is)

pub returns-in-Some-Read : goal.returns-in-Some-Read
returns-in-Some-Read c =
    caused c.args.tree.now.store c.args.store.now c.requires.stored c.in-Some.place
    c.args.schemas.now.held.items c.requires.kept
    ((standing_of c.args.tree.now).node_tree c.args.node) c.in-Some.ensures
    (Read c.in-Some-Read.field-0-0)
    (sym c.in-Some-Read.ensures ∙ ap Some c.in-Some-Read.field-0-is)

pub returns-in-Some-Without : goal.returns-in-Some-Without
returns-in-Some-Without c =
    caused c.args.tree.now.store c.args.store.now c.requires.stored c.in-Some.place
    c.args.schemas.now.held.items c.requires.kept
    ((standing_of c.args.tree.now).node_tree c.args.node) c.in-Some.ensures Without
    (sym c.in-Some-Without.ensures ∙ ap Some c.in-Some-Without.field-0-is)
