use Rattle.engine_state.specs.State.{unopened}
use Rattle.engine_state.proofs.Steps.{after_all-append, allowed_one, report-append, report_text-append}
use Rattle.engine_state.proofs.laws.journals_go_on.Goals as goal

pub returns : goal.returns
returns c = record {
  state = after_all-append unopened;
  legal = allowed_one unopened;
  lines = report-append unopened;
  text = report_text-append;
}
