use Rattle.std.proofs.Common.{◌∙◌, ap, sym}
use Rattle.session_script.specs.Ascii.{parts_at}
use Rattle.session_script.specs.ScriptLines.{line_of_viewer, space}
use Rattle.session_script.proofs.FirstPieces.{some_part}
use Rattle.session_script.proofs.NoLines.{no_line_of_more}
use Rattle.session_script.proofs.line.look_line.Goals as goal

pub returns-in-Some-clause-value : goal.returns-in-Some-clause-value
returns-in-Some-clause-value c =
    let parts = rw c.in-Some.is at c.first_piece.ensures.parts in
    let name = c.args.name.now in
    let viewer = c.args.viewer in
    sym (ap (line_of_viewer name viewer) parts
    ∙ no_line_of_more name viewer c.first_piece.result.0.now (parts_at space c.in-Some.field-0.now)
    (some_part space c.in-Some.field-0.now))
