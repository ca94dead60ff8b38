use Rattle.std.proofs.lemmas.Result.{err_from_is_err_and}
use Rattle.tileset_schema.proofs.contents.contents_of.Goals as goal

pub returns-in_err-first-in-One-clause-value : goal.returns-in_err-first-in-One-clause-value
returns-in_err-first-in-One-clause-value c =
    let p = err_from_is_err_and c.from_residual-in_err-first-in-One.result
    c.from_residual-in_err-first-in-One.ensures.1 in
    rw (p.1, p.2, c.in-One.is) c.in_err-first-in-One.ensures.value
