use Rattle.std.proofs.Common.{◌∙◌, ◌+◌, ◌∷◌, ap, sym}
use Rattle.std.proofs.Common.{take}
use Rattle.std.proofs.lemmas.List.{take_rest}
use Rattle.session_script.specs.Ascii.{parts_at}
use Rattle.session_script.proofs.FirstPieces.{one_piece, pieces_at}
use Rattle.session_script.proofs.pieces.first_piece.Goals as goal

pub returns-in-Some-clause-parts : goal.returns-in-Some-clause-parts
returns-in-Some-clause-parts c =
    let at = c.in-Some.at in
    let bytes = c.args.bytes.now in
    pieces_at c.args.mark at bytes (sym c.position_of.ensures.value ∙ c.in-Some.is)
    ∙ ap (λ more. take at bytes ∷ parts_at c.args.mark more) (sym (take_rest bytes (at + 1)))

pub returns-in-None-clause-parts : goal.returns-in-None-clause-parts
returns-in-None-clause-parts c =
    one_piece c.args.mark c.args.bytes.now (sym c.position_of.ensures.value ∙ c.in-None.is)
