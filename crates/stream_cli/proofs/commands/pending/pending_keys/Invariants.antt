use Rattle.std.proofs.Common.{◌≡◌, take}
use Rattle.std.specs.List.{flat_map}
use Rattle.cut_core.specs.Wants.{key_list}
use Rattle.expanded_tree.specs.Tree.{key_of}
use Rattle.plain_tree.specs.Standing.{standing_of}
use Rattle.stream_cli.proofs.commands.pending.pending_keys.Given as goal

-- the keys of the pending ones of the nodes so far
abbrev pub invariant-loop-node : goal.invariant-loop-node
invariant-loop-node l =
    l.keys.items
    ≡ flat_map (λ n. key_list (key_of ((standing_of l.tree).node_tree n)))
    (take l.node-index l.node-items)
