use Rattle.std.proofs.Common.{◌∙◌, ap, bytes_eq}
use Rattle.stream_cli.specs.Kept.{keeps}
use Rattle.stream_cli.proofs.Entries.{any_key}
use Rattle.stream_cli.proofs.contents.ContentMap.keeps.Goals as goal

pub returns : goal.returns
returns c =
    let address = c.args.address.now in
    c.contains_key.ensures
    ∙ any_key (bytes_eq address) c.self.inside.facts.entries
    ∙ ap (λ kept. keeps kept address) c.self.view_is
