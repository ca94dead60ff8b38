use Rattle.std.proofs.Common.{◌≡◌, ◌∙◌, List, [], ℕ, Some, ap, subst, sym}
use Rattle.plain_tree.specs.Standing.{standing_of}
use Rattle.doc_store.specs.Store.{docs}
use Rattle.expanded_tree.specs.declared.node.Node.{Node}
use Rattle.tile_metadata.specs.Metadata.{lines_of}
use Rattle.tile_metadata.specs.Shown.{lines_at, lines_shown}
use Rattle.tile_metadata.specs.Turned.{Turned}
use Rattle.tile_metadata.specs.declared.held.Held.TheVariants.{Read, Refused, Without}
use Rattle.tile_metadata.proofs.LinesTold.{lines_opened, lines_told}
use Rattle.tile_metadata.proofs.meta_lines.MetaLines.turn_to.Goals as goal

-- the lines of a node of what is turned
abbrev node_lines : Node → Turned → List (List ℕ)
node_lines node v = lines_of (docs v.store) ((standing_of v.tree).node_tree node)

pub returns-in_ok-name-in-Some-Read-clause-lines :
    goal.returns-in_ok-name-in-Some-Read-clause-lines
returns-in_ok-name-in-Some-Read-clause-lines c =
    let parts = c.in-Some-subtree_at.subtree.now in
    subst (λ v. lines_shown c.open_at.new.current c.show.result ≡ node_lines c.args.node v)
    c.self.view_is
    (c.show.ensures.lines
    ∙ ap (λ n. lines_at n c.in-Some.place.index parts c.open_at.new.current)
    c.in_ok-name-in-Some-Read.ensures
    ∙ lines_opened c.in-Some-Read.schema _ c.in-Some.place.index parts c.open_at.new.current
    c.in_ok-open_at-in-Some-Read.ensures.table
    ∙ sym (lines_told _ _ c.self.invariant.stored c.in-Some.place _ c.self.invariant.kept
    (Read c.in-Some-Read.schema) (sym c.in-Some-Read.ensures ∙ ap Some c.in-Some-Read.field-0-is)
    parts (sym c.in-Some-subtree_at.ensures.value)
    ((standing_of c.self.inside.tree.now).node_tree c.args.node) c.in-Some.ensures))

pub returns-in-Some-Refused-clause-lines : goal.returns-in-Some-Refused-clause-lines
returns-in-Some-Refused-clause-lines c =
    subst (λ v. [] ≡ node_lines c.args.node v) c.self.view_is
    (sym (lines_told _ _ c.self.invariant.stored c.in-Some.place _ c.self.invariant.kept
    (Refused c.in-Some-Refused.field-0-0)
    (sym c.in-Some-Refused.ensures ∙ ap Some c.in-Some-Refused.field-0-is)
    c.in-Some-subtree_at.subtree.now (sym c.in-Some-subtree_at.ensures.value)
    ((standing_of c.self.inside.tree.now).node_tree c.args.node) c.in-Some.ensures))

pub returns-in-Some-Without-clause-lines : goal.returns-in-Some-Without-clause-lines
returns-in-Some-Without-clause-lines c =
    subst (λ v. [] ≡ node_lines c.args.node v) c.self.view_is
    (sym (lines_told _ _ c.self.invariant.stored c.in-Some.place _ c.self.invariant.kept Without
    (sym c.in-Some-Without.ensures ∙ ap Some c.in-Some-Without.field-0-is)
    c.in-Some-subtree_at.subtree.now (sym c.in-Some-subtree_at.ensures.value)
    ((standing_of c.self.inside.tree.now).node_tree c.args.node) c.in-Some.ensures))
