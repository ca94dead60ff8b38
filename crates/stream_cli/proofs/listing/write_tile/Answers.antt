use Rattle.std.proofs.Common.{◌≡◌, ◌++◌, ap, codes, drop, rules, ◌∙◌}
use Rattle.stream_cli.proofs.Lines.{tile_parts}
use Rattle.stream_cli.proofs.listing.write_tile.Goals as goal

pub returns : goal.returns
returns c =
    let name = c.args.name.now in
    let end = drop c.place_end-start.result c.place_end-start.new.bytes in
    let parts : c.push_from.new.line.items ≡ codes "tile " ++ name ++ end = search rules in
    parts ∙ ap (λ end. codes "tile " ++ name ++ end) c.place_end-start.ensures.written
    ∙ tile_parts name c.args.facts.now
