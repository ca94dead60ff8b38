use Rattle.std.proofs.Common.{sym}
use Rattle.session_script.proofs.AsciiViews.{view_is_utf8}
use Rattle.session_script.proofs.line.view_in.Goals as goal

pub returns-in-Err : goal.returns-in-Err
returns-in-Err c = sym (view_is_utf8 c.args.bytes.now c.in-Err.ensures.cases.0)
