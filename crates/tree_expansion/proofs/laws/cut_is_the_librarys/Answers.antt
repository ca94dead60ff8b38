use Rattle.cut_core.specs.Cut.{with_all}
use Rattle.tree_expansion.proofs.Unseen.{cut_is_full}
use Rattle.tree_expansion.proofs.laws.cut_is_the_librarys.Goals as goal

pub returns : goal.returns
returns c = record {
  cut = λ library docs agrees root view loaded tiles holdings.
      cut_is_full view holdings library docs agrees root loaded tiles;
  ideal = λ library docs agrees root view loaded tiles holdings.
      cut_is_full view (with_all holdings) library docs agrees root loaded tiles;
}
