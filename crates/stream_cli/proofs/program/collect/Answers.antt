use Rattle.std.proofs.Common.{sym, subst}
use Rattle.stream_cli.specs.Arguments.{AreGiven}
use Rattle.stream_cli.proofs.program.collect.Goals as goal

pub returns-in-Ok : goal.returns-in-Ok
returns-in-Ok c =
    let ran = c.in-Ok.ensures.ran in
    subst (AreGiven c.args.given) (sym ran.2.0) ran.1
