use Rattle.std.proofs.lemmas.Result.{err_from_is_err_and}
use Rattle.cut_core.proofs.WholeWalks.{whole_err, whole_ok}
use Rattle.cut_core.proofs.visits.visited.Goals as goal

pub returns-in_err-found-clause-walk : goal.returns-in_err-found-clause-walk
returns-in_err-found-clause-walk g c =
    let p = err_from_is_err_and c.from_residual.result c.from_residual.ensures.1 in
    rw (p.1, p.2) (whole_err _ c.in_err-found.ensures.walk)

pub returns-clause-walk : goal.returns-clause-walk
returns-clause-walk g c = whole_ok _ _ c.in_ok-found.ensures.walk
