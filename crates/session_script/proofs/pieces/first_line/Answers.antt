use Rattle.session_script.proofs.FirstPieces.{line_before}
use Rattle.session_script.proofs.pieces.first_line.Goals as goal

pub returns-in-Some-clause-line : goal.returns-in-Some-clause-line
returns-in-Some-clause-line c =
    let parts = rw c.in-Some.is at c.first_piece.ensures.parts in
    rw c.without_carriage_return.ensures
    (line_before c.args.bytes.now c.first_piece.result.0.now c.in-Some.more.now parts)
