use Rattle.std.proofs.Common.{◌≡◌, ◌∙◌, ap, arith, map}
use Rattle.std.proofs.lemmas.List.{take_all}
use Rattle.std.specs.List.{flat_map}
use Rattle.cut_core.specs.Wants.{key_list}
use Rattle.expanded_tree.specs.Tree.{key_of}
use Rattle.plain_tree.specs.Preorder.{nodes_of}
use Rattle.plain_tree.specs.Standing.{standing_of}
use Rattle.stream_cli.proofs.Puts.{flat_of_map}
use Rattle.stream_cli.proofs.commands.pending.pending_keys.Goals as goal

pub returns : goal.returns
returns c =
    let standing = standing_of c.args.tree.now in
    let nodes = c.as_slice-node-items.result.now in
    let all = take_all c.loop-node.node-index nodes (omega (arith, c.loop-node-test.false)) in
    let trees : map standing.node_tree nodes ≡ nodes_of standing.tree =
    ap (map standing.node_tree) c.as_slice-node-items.ensures.value ∙ c.in_ok-nodes.ensures.trees
    in
    c.loop-node.invariant
    ∙ ap (flat_map (λ n. key_list (key_of (standing.node_tree n)))) all
    ∙ flat_of_map (λ t. key_list (key_of t)) standing.node_tree nodes
    ∙ ap (flat_map (λ t. key_list (key_of t))) trees
