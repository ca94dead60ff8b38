use Rattle.tree_expansion.proofs.Seeing.{cut_stays}
use Rattle.tree_expansion.proofs.laws.growth_out_of_sight_changes_no_cut.Goals as goal

pub returns : goal.returns
returns c = λ view new from to g keeps loaded holdings.
    cut_stays view holdings new from to g keeps loaded
