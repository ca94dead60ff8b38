use Rattle.std.proofs.Common.{◌≡◌, take, string_bytes}
use Rattle.session_script.proofs.ViewFields.{with_planes}
use Rattle.session_script.specs.ViewTexts.{text_of_view}
use Rattle.session_script.proofs.view.written.Given as goal

abbrev pub invariant-loop-plane : goal.invariant-loop-plane
invariant-loop-plane l = string_bytes l.text
    ≡ text_of_view (with_planes l.view (take l.plane-index l.plane-items))
