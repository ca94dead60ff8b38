use Rattle.std.proofs.Common.{rules}
use Rattle.session_script.specs.ViewTexts.{text_of_fields, text_of_view}
use Rattle.session_script.proofs.view.text_before_planes.Goals as goal

pub returns : goal.returns
unfolding text_of_view text_of_fields
returns c = search rules
