use Rattle.std.proofs.Common.{arith}
use Rattle.tile_uri.proofs.States.{entry}
use Rattle.tile_uri.proofs.plain_path.next_state.Goals as goal

pub returns : goal.returns
returns c = rw (c.from.ensures, c.from-2.ensures)
    (entry c.args.state c.args.byte c.requires (omega arith))
