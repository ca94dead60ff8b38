use Rattle.std.proofs.Common.{false}
use Rattle.engine_core.proofs.Afterwards.{frame_is_held}
use Rattle.engine_core.proofs.engine.Core.look.Goals as goal

pub returns-clause-held : goal.returns-clause-held
returns-clause-held c =
    frame_is_held _ _ _ c.args.pass c.args.viewer c.args.view false c.show.ensures.frame
    c.show.ensures.journal
