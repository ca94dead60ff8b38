use Rattle.std.proofs.Common.{◌≡◌, ◌∙◌, ap, map, refl}
use Rattle.std.specs.List.{flat_map}
use Rattle.plain_tree.specs.Standing.{standing_of}
use Rattle.stream_cli.specs.Listing.{lines_of, listing}
use Rattle.stream_cli.proofs.Puts.{flat_of_map, print_cause}
use Rattle.stream_cli.proofs.commands.tiles.print_tiles.Goals as goal

pub returns : goal.returns
returns g c =
    let standing = standing_of c.args.tree.now in
    let nodes = c.as_slice.result.now in
    let lines : flat_map (λ n. lines_of (standing.node_tree n)) nodes ≡ listing standing.tree =
    flat_of_map lines_of standing.node_tree nodes
    ∙ ap (λ ns. flat_map lines_of (map standing.node_tree ns)) c.as_slice.ensures.value
    ∙ ap (flat_map lines_of) c.in-Ok.ensures.trees in
    print_cause c.put_tiles.result _ c.cause_of.result _ _ refl c.cause_of.ensures
    (rw lines at c.put_tiles.ensures)
