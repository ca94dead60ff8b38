use Rattle.std.proofs.Common.{◌≡◌, ◌≤◌, subst, sym}
use Rattle.doc_store.specs.Store.{docs}
use Rattle.plain_tree.specs.Standing.{standing_of}
use Rattle.plain_tree.specs.declared.limits.TheConstants.{NODE_LIMIT}
use Rattle.tree_nodes.specs.Trees.{size_of}
use Rattle.stream_cli.specs.Looks.{EndsLook, OfMeta}
use Rattle.stream_cli.specs.Sides.{out_run}
use Rattle.stream_cli.proofs.commands.meta.print_or_wait.Goals as goal

pub returns-then-is_whole : goal.returns-then-is_whole
returns-then-is_whole g c = λ source idle.
    let tree = (standing_of c.in-Ok.tree).tree in
    let new = c.print_metadata.new.out in
    let old = c.args.out.now in
    let out = out_run g.W.Sink.written g.W.Sink.faults g.W.Sink.puts old new in
    let few : size_of tree ≤ NODE_LIMIT =
    subst (λ root. size_of root ≤ NODE_LIMIT) (sym c.in-Ok.ensures.tree) c.in-Ok.ensures.within in
    subst (λ root. EndsLook (OfMeta (docs c.args.store.now) root) source 0 out (new ≡ old)
    c.print_metadata.result)
    c.in-Ok.ensures.tree
    (c.print_metadata.ensures source idle
    (record { few = few; loaded = c.is_whole.ensures.0 c.if-is_whole.true }))
