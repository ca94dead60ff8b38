use Rattle.std.proofs.Common.{◌++◌, ap, length}
use Rattle.std.proofs.lemmas.List.{drop-replicate}
use Rattle.error_test.specs.Padding.{no_plane}
use Rattle.error_test.proofs.view.padded.Goals as goal

pub returns : goal.returns
returns c =
    rw c.copy_from_slice.ensures.after
    (ap (λ rest. c.args.planes.now ++ rest)
    (drop-replicate (length c.args.planes.now) 16 no_plane))
