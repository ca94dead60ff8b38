use Rattle.std.proofs.Common.{◌∙◌, ◌∷◌, ◌++◌, [], ap, nat_eq}
use Rattle.std.specs.Cmp.Lexicographic.{pointwise}
use Rattle.indexmap.proofs.CallerLemmas.{insert_entry-new}
use Rattle.stream_cli.specs.Kept.{keeps}
use Rattle.stream_cli.proofs.Entries.{no_key_found}
use Rattle.stream_cli.proofs.contents.ContentMap.add.Goals as goal

pub returns : goal.returns
returns c =
    let old = c.self.inside.facts in
    let address = c.args.address in
    let facts = c.args.facts in
    c.in_ok-insert.ensures.entries
    ∙ insert_entry-new (pointwise nat_eq) old address facts
    (no_key_found (pointwise nat_eq address) old.entries
    (ap (λ kept. keeps kept address) c.self.view_is ∙ c.requires))
    ∙ ap (λ kept. kept ++ (address, facts) ∷ []) c.self.view_is
