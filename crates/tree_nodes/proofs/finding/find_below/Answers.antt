use Rattle.std.proofs.Common.{◌≡◌, sym, ◌∙◌, subst}
use Rattle.std.proofs.lemmas.Result.{IfOk-weaker}
use Rattle.tree_nodes.specs.Places.{IsSubtreeOf}
use Rattle.tree_nodes.proofs.FoundTiles.{found_child, no_child, parts_of_root, shared}
use Rattle.tree_nodes.proofs.finding.find_below.Goals as goal

pub find_in-requires-clause-subtree : goal.find_in-requires-clause-subtree
find_in-requires-clause-subtree c =
    shared c.args.store.now c.args.root.now c.args.at c.args.number c.requires.above
    c.requires.level (sym c.begins_subtree.ensures ∙ c.if-not-begins_subtree.true)

pub subtree_in-requires : goal.subtree_in-requires
subtree_in-requires c =
    subst (λ p. IsSubtreeOf c.args.store.now c.args.root.now p c.args.number)
    (sym c.above.ensures) c.requires.above

pub has_child_subtree-requires-clause-subtree : goal.has_child_subtree-requires-clause-subtree
has_child_subtree-requires-clause-subtree c =
    let s = subst (λ p. IsSubtreeOf c.args.store.now c.args.root.now p c.args.number)
    (sym c.above.ensures) c.requires.above in
    parts_of_root c.args.store.now c.args.root.now c.above.result c.args.number s
    c.subtree_in.result.now (c.subtree_in.ensures s)

pub returns-then-not-has_child_subtree : goal.returns-then-not-has_child_subtree
returns-then-not-has_child_subtree c =
    no_child c.args.store.now c.args.root.now c.args.at c.args.number c.requires.above
    c.subtree_in.result.now
    (subst (λ p. (s : IsSubtreeOf c.args.store.now c.args.root.now p c.args.number)
    → c.subtree_in.result.now ≡ s.parts) c.above.ensures c.subtree_in.ensures c.requires.above)
    c.has_child_subtree.result c.has_child_subtree.ensures
    (sym c.begins_subtree.ensures ∙ c.if-not-begins_subtree.false)
    c.if-not-has_child_subtree.true

pub returns : goal.returns
returns c =
    let parts = c.subtree_in.result.now in
    let same =
    subst (λ p. (s : IsSubtreeOf c.args.store.now c.args.root.now p c.args.number)
    → parts ≡ s.parts) c.above.ensures c.subtree_in.ensures c.requires.above in
    IfOk-weaker c.find_own.result _ _
    (λ found own. found_child c.args.store.now c.args.root.now c.args.at c.args.number
    c.requires.above parts same c.has_child_subtree.result c.has_child_subtree.ensures found
    c.if-not-has_child_subtree.false own) c.find_own.ensures
