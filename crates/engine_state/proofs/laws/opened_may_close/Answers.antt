use Rattle.std.proofs.Common.{refl}
use Rattle.cut_core.proofs.Bools.{and_true}
use Rattle.engine_state.specs.Allowed.{is_opening}
use Rattle.engine_state.proofs.laws.opened_may_close.Goals as goal

pub returns : goal.returns
returns c = record {
  legal = λ root bytes budget order pass. and_true (is_opening root bytes);
  closed = λ root bytes budget order pass. refl;
  loaded = λ root bytes budget order pass. refl;
}
