use Rattle.std.proofs.Common.{◌∙◌, ap, map, refl, subst}
use Rattle.cut_core.specs.Sights.{Sees}
use Rattle.cut_core.specs.Wants.{wanted}
use Rattle.tree_nodes.specs.Trees.{stored_tree}
use Rattle.stream_cli.specs.Awaited.{nothing_absent}
use Rattle.stream_cli.proofs.commands.cut.look.Goals as goal

pub returns-in-Ok-keys_of-clause-looks : goal.returns-in-Ok-keys_of-clause-looks
returns-in-Ok-keys_of-clause-looks g c =
    let view = c.args.view.now in
    let is =
    subst (Sees view nothing_absent (stored_tree c.in-Ok.arena.store)) c.in-Ok-Awaits.field-0-is
    c.in-Ok-Awaits.ensures.sees in (
      (
        record { fetches = refl; unfailed = refl },
        refl,
        c.in-Ok-keys_of.ensures ∙ ap (map (λ want. want.key)) is
            ∙ ap (λ store. map (λ want. want.key)
            (wanted view nothing_absent (stored_tree store))) c.in-Ok.ensures.store,
      ),
      c.into_store.ensures ∙ c.ideal_or_want.ensures.basis ∙ c.in-Ok.ensures.store,
    )
