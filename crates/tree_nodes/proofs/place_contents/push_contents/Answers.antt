use Rattle.std.proofs.Common.{not, sym, append-nil}
use Rattle.tile_uri.specs.Addresses.{is_external}
use Rattle.tree_nodes.proofs.PlaceContents.{contents_more, passed_more}
use Rattle.tree_nodes.proofs.place_contents.push_contents.Goals as goal

pub loop-which-init : goal.loop-which-init
loop-which-init c = record {
  contents = sym (append-nil c.args.contents.now.items);
  external = sym (append-nil c.args.external.now.items);
}

pub loop-which-preserved : goal.loop-which-preserved
loop-which-preserved c = record {
  contents =
      passed_more (λ x. not (is_external x)) _ _ _ _ _ _ c.loop-which.invariant.contents
      c.in_ok-push_content.ensures.contents
      (contents_more c.args.root.now c.args.subtree.now c.args.at c.loop-which.which);
  external =
      passed_more is_external _ _ _ _ _ _ c.loop-which.invariant.external
      c.in_ok-push_content.ensures.external
      (contents_more c.args.root.now c.args.subtree.now c.args.at c.loop-which.which);
}
