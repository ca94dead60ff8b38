use Rattle.engine_state.proofs.SameViews.{view_decides}
use Rattle.engine_state.proofs.laws.same_views_are_equal.Goals as goal

pub returns : goal.returns
returns c = view_decides
