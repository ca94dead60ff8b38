use Rattle.std.proofs.Common.{◌∙◌}
use Rattle.tree_nodes.proofs.Staying.{first_alone}
use Rattle.tree_nodes.proofs.node_list.NodeList.clear.Goals as goal

pub returns : goal.returns
returns c = record {
  nodes = c.clear.ensures.items;
  waiting = c.clear-2.ensures.items;
  transforms = c.truncate.ensures.items ∙ first_alone c.args.self.now.tables.transforms.items c.requires;
}
