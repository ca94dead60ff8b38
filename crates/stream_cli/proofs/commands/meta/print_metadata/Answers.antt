use Rattle.std.proofs.Common.{◌≡◌, ◌∙◌, List, ℕ, None, ap, map, refl, subst}
use Rattle.std.specs.List.{flat_map}
use Rattle.doc_store.specs.Store.{Stored, docs}
use Rattle.expanded_tree.specs.declared.node.Node.{Node}
use Rattle.plain_tree.specs.Preorder.{nodes_of}
use Rattle.plain_tree.specs.Standing.{Plain, standing_of}
use Rattle.tile_metadata.specs.Metadata.{first_cause, lines_of, metadata}
use Rattle.stream_cli.specs.Printing.{PutsLines}
use Rattle.stream_cli.specs.Sides.{out_run}
use Rattle.stream_cli.proofs.Puts.{flat_of_map, print_cause}
use Rattle.stream_cli.proofs.Showing.{meta_shown}
use Rattle.stream_cli.proofs.commands.meta.print_metadata.Goals as goal

-- the lines of nodes
abbrev lines_in : Stored → Plain → List Node → List (List ℕ)
lines_in store tree nodes =
    flat_map (λ n. lines_of (docs store) ((standing_of tree).node_tree n)) nodes

pub returns : goal.returns
returns g c = λ source idle listable.
    let held = docs c.args.store.now in
    let standing = standing_of c.args.tree.now in
    let nodes = c.as_slice.result.now in
    let trees : map standing.node_tree nodes ≡ nodes_of standing.tree =
    ap (map standing.node_tree) c.as_slice.ensures.value ∙ c.in-Ok.ensures.trees in
    let read : first_cause held (nodes_of standing.tree) ≡ None =
    subst (λ ts. first_cause held ts ≡ None) trees c.in-Ok-read.ensures.ok.unrefused in
    let last = c.as_slice-2.result.now in
    let listed : map standing.node_tree last ≡ nodes_of standing.tree =
    ap (map standing.node_tree) c.as_slice-2.ensures.value ∙ c.in-Ok.ensures.trees in
    let same : lines_in c.new-lines.result.store c.new-lines.result.tree last
    ≡ metadata held standing.tree =
    ap (λ store. lines_in store c.new-lines.result.tree last) c.new-lines.ensures.store
    ∙ ap (λ tree. lines_in c.args.store.now tree last) c.new-lines.ensures.tree
    ∙ flat_of_map (lines_of held) standing.node_tree last
    ∙ ap (flat_map (lines_of held)) listed in
    let new = c.put_metadata.new.out in
    let old = c.args.out.now in
    let out = out_run g.W.Sink.written g.W.Sink.faults g.W.Sink.puts old new in
    meta_shown held standing.tree source idle listable read out (new ≡ old) c.cause_of.result
    (print_cause c.put_metadata.result _ c.cause_of.result out _ refl c.cause_of.ensures
    (subst (PutsLines c.put_metadata.result out) same c.put_metadata.ensures))

pub new-lines-requires-clause-kept : goal.new-lines-requires-clause-kept
new-lines-requires-clause-kept g c = c.in-Ok-read.ensures.kept
