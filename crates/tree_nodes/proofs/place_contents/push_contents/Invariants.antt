use Rattle.std.proofs.Common.{◌≡◌, ◌++◌}
use Rattle.tree_expansion.specs.Expansion.{external_of, own_of}
use Rattle.tree_nodes.specs.PlaceContents.{first_contents}
use Rattle.tree_nodes.proofs.place_contents.push_contents.Given as goal

abbrev pub invariant-loop-which : goal.invariant-loop-which
invariant-loop-which l = record {
  contents : l.contents.items ≡ l.fn.contents.items
      ++ own_of (first_contents l.root l.subtree l.at l.which);
  external : l.external.items ≡ l.fn.external.items
      ++ external_of (first_contents l.root l.subtree l.at l.which);
}
