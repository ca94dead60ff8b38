-- What was read before, and what is still read.
use Rattle.std.proofs.Common.{List, ◌++◌, Ok}
use Rattle.meta_schema.specs.Causes.{Read, ◌>>=◌}

-- those that are read behind those that were
abbrev pub behind : {B : Type 0} → List B → Read (List B) → Read (List B)
behind front read = read >>= λ ys. Ok (front ++ ys)
