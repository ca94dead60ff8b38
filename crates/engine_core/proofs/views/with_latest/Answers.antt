use Rattle.std.proofs.Common.{◌++◌, ◌∙◌, ap, take}
use Rattle.std.proofs.lemmas.List.{take_rest}
use Rattle.engine_core.proofs.LatestViews.{put_together}
use Rattle.engine_core.proofs.views.with_latest.Goals as goal

pub returns : goal.returns
returns c =
    let views = c.args.views.now in
    let at = c.count_earlier-at.result in
    let end = c.behind-end.result in
    put_together views c.args.viewer c.args.view.now at end
    c.extend_from_slice.new.self.items c.push.new.self.items c.extend_from_slice-2.new.self.items
    c.count_earlier-at.ensures.count c.behind-end.ensures.end
    (c.in_ok-extend_from_slice.ensures.items
    ∙ ap (λ xs. xs ++ take at views) c.in_ok-latest.ensures.items)
    c.in_ok-push.ensures.items
    (c.in_ok-extend_from_slice-2.ensures.items
    ∙ ap (λ xs. c.push.new.self.items ++ xs) (take_rest views end))
