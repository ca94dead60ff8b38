use Rattle.std.proofs.Common.{arith, ◌∙◌, ◌∷◌, ◌++◌, ap, get_or, sym, take}
use Rattle.std.proofs.lemmas.List.{take_more}
use Rattle.error_test.proofs.ViewLimits.{none_past_limit}
use Rattle.error_test.specs.Padding.{no_plane}
use Rattle.session_script.specs.Ascii.{colon}
use Rattle.session_script.specs.ViewTexts.{text_of_plane, text_of_view}
use Rattle.session_script.proofs.ViewFields.{text_of_view-push, with_planes}
use Rattle.session_script.proofs.view.written.Goals as goal

pub loop-plane-preserved : goal.loop-plane-preserved
loop-plane-preserved c =
    let l = c.loop-plane in
    let v = c.args.view.now in
    let planes = c.planes-plane-items.result.now in
    let read = take l.plane-index planes in
    let plane = get_or planes l.plane-index no_plane in
    let more = take_more planes l.plane-index no_plane (omega arith) in
    c.in_ok-push_plane.ensures
    ∙ (ap (λ text. text ++ (colon ∷ text_of_plane plane)) l.invariant
    ∙ (sym (text_of_view-push v read plane)
    ∙ ap (λ ps. text_of_view (with_planes v ps)) (sym more)))

pub returns-clause-within : goal.returns-clause-within
returns-clause-within c = none_past_limit c.args.view.now c.planes-plane-items.ensures.within
