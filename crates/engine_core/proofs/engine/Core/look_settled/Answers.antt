use Rattle.engine_core.proofs.Afterwards.{settled_frame_is_held}
use Rattle.engine_core.proofs.engine.Core.look_settled.Goals as goal

pub returns-clause-held : goal.returns-clause-held
returns-clause-held c =
    settled_frame_is_held _ _ _ c.args.pass c.args.viewer c.show_settled.ensures.frame
    c.show_settled.ensures.journal
