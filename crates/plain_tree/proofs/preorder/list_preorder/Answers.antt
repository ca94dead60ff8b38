use Rattle.std.proofs.Common.{◌≡◌, ◌<◌, ◌+◌, ◌*◌, List, ℕ, [], ◌∷◌, ◌++◌, length, refl, sym, ap, subst, ◌∙◌, arith}
use Rattle.expanded_tree.specs.declared.node.Node.{Node}
use Rattle.plain_tree.specs.declared.preorder.Siblings.{Siblings}
use Rattle.tree_nodes.specs.Nodes.{node_trees}
use Rattle.plain_tree.specs.Windows.{end_of, first_of}
use Rattle.plain_tree.proofs.Stacks.{Open, open_size, parent, passed, smaller_passed, smaller_stepped, starts, stepped}
use Rattle.plain_tree.proofs.WindowPlaces.{bound_read}
use Rattle.plain_tree.proofs.preorder.list_preorder.Goals as goal

pub loop-siblings-init : goal.loop-siblings-init
loop-siblings-init c =
    let plain = c.args.plain.now in
    let P : List Node → List Siblings → Type 0 = λ ns ss. Open c.args._store.now plain ns ss in
    let pushed : c.push.new.self.items ≡ record { next = 0; end = c.min-end.result } ∷ [] =
    c.in_ok-push.ensures.items
    ∙ ap (λ (ss : List Siblings). ss ++ record { next = 0; end = c.min-end.result } ∷ [])
    c.new-stack.ensures.items in
    subst (λ (ns : List Node). P ns c.push.new.self.items) (sym c.new-listed.ensures.items)
    (subst (P []) (sym pushed)
    (starts c.args._store.now plain c.min-end.result c.requires
    (λ h. omega (arith, h, c.min-end.ensures, c.len.ensures, plain.list.nodes.ok.0))
    (λ h. omega (arith, h, c.min-end.ensures, c.len.ensures, plain.list.nodes.ok.0))))

pub index-requires : goal.index-requires
index-requires c =
    let p = parent c.args._store.now c.args.plain.now c.loop-siblings.listed.items
    c.loop-siblings.stack.items c.pop.new.self.items
    c.in-Some.siblings c.requires c.loop-siblings.invariant c.in-Some.ensures.items
    c.if-siblings.true in
    omega (arith, p.there, c.args.plain.now.bounds.ok.0)

pub index-requires-then-siblings : goal.index-requires-then-siblings
index-requires-then-siblings c =
    let p = parent c.args._store.now c.args.plain.now c.loop-siblings.listed.items
    c.loop-siblings.stack.items c.pop.new.self.items
    c.in-Some.siblings c.requires c.loop-siblings.invariant c.in-Some.ensures.items
    c.if-siblings.true in
    omega (arith, p.there, c.args.plain.now.bounds.ok.0)

pub loop-siblings-smaller : goal.loop-siblings-smaller
loop-siblings-smaller c =
    smaller_passed c.args._store.now c.args.plain.now c.loop-siblings.listed.items
    c.loop-siblings.stack.items c.pop.new.self.items
    c.in-Some.siblings c.requires c.loop-siblings.invariant c.in-Some.ensures.items

pub loop-siblings-preserved : goal.loop-siblings-preserved
loop-siblings-preserved c =
    passed c.args._store.now c.args.plain.now c.loop-siblings.listed.items
    c.loop-siblings.stack.items c.pop.new.self.items
    c.in-Some.siblings c.requires c.loop-siblings.invariant c.in-Some.ensures.items
    c.if-siblings.false

pub loop-siblings-preserved-in-Continue-branch-4 : goal.loop-siblings-preserved-in-Continue-branch-4
loop-siblings-preserved-in-Continue-branch-4 c =
    let store = c.args._store.now in
    let plain = c.args.plain.now in
    let s = c.in-Some.siblings in
    let rest = c.pop.new.self.items in
    let p = parent store plain c.loop-siblings.listed.items c.loop-siblings.stack.items rest
    s c.requires c.loop-siblings.invariant c.in-Some.ensures.items c.if-siblings.true in
    let first = bound_read plain.bounds.items s.next c.index.result.now (omega (arith, p.there))
    c.index.ensures in
    let end = bound_read plain.bounds.items (s.next + 1) c.index-then-siblings.result.now p.there
    c.index-then-siblings.ensures in
    let stack : c.push-then-siblings-3.new.self.items
    ≡ (rest ++ record { next = s.next + 1; end = s.end } ∷ [])
    ++ record {
      next = first_of plain.bounds.items s.next;
      end = end_of plain.bounds.items
          s.next;
    } ∷ [] =
    c.in_ok-push-4.ensures.items
    ∙ ap (λ (ss : List Siblings). ss ++ record {
      next = c.index.result.now;
      end = c.index-then-siblings.result.now;
    } ∷ []) c.in_ok-push-3.ensures.items
    ∙ ap (λ (a : ℕ). (rest ++ record { next = s.next + 1; end = s.end } ∷ []) ++ record {
      next = a;
      end = c.index-then-siblings.result.now;
    } ∷ []) (sym first)
    ∙ ap (λ (b : ℕ). (rest ++ record { next = s.next + 1; end = s.end } ∷ [])
    ++ record { next = first_of plain.bounds.items s.next; end = b } ∷ []) (sym end) in
    let P : List Node → List Siblings → Type 0 = λ ns ss. Open store plain ns ss in
    let n : Node = record { number = s.next } in
    subst (λ (ns : List Node). P ns c.push-then-siblings-3.new.self.items)
    (sym c.in_ok-push-2.ensures.items)
    (subst (P (c.loop-siblings.listed.items ++ n ∷ [])) (sym stack)
    (stepped store plain c.loop-siblings.listed.items c.loop-siblings.stack.items rest s c.requires
    c.loop-siblings.invariant c.in-Some.ensures.items c.if-siblings.true n refl))

pub loop-siblings-smaller-in-Continue-branch-4 : goal.loop-siblings-smaller-in-Continue-branch-4
loop-siblings-smaller-in-Continue-branch-4 c =
    let store = c.args._store.now in
    let plain = c.args.plain.now in
    let s = c.in-Some.siblings in
    let rest = c.pop.new.self.items in
    let p = parent store plain c.loop-siblings.listed.items c.loop-siblings.stack.items rest
    s c.requires c.loop-siblings.invariant c.in-Some.ensures.items c.if-siblings.true in
    let first = bound_read plain.bounds.items s.next c.index.result.now (omega (arith, p.there))
    c.index.ensures in
    let end = bound_read plain.bounds.items (s.next + 1) c.index-then-siblings.result.now p.there
    c.index-then-siblings.ensures in
    let stack : c.push-then-siblings-3.new.self.items
    ≡ (rest ++ record { next = s.next + 1; end = s.end } ∷ [])
    ++ record {
      next = first_of plain.bounds.items s.next;
      end = end_of plain.bounds.items
          s.next;
    } ∷ [] =
    c.in_ok-push-4.ensures.items
    ∙ ap (λ (ss : List Siblings). ss ++ record {
      next = c.index.result.now;
      end = c.index-then-siblings.result.now;
    } ∷ []) c.in_ok-push-3.ensures.items
    ∙ ap (λ (a : ℕ). (rest ++ record { next = s.next + 1; end = s.end } ∷ []) ++ record {
      next = a;
      end = c.index-then-siblings.result.now;
    } ∷ []) (sym first)
    ∙ ap (λ (b : ℕ). (rest ++ record { next = s.next + 1; end = s.end } ∷ [])
    ++ record { next = first_of plain.bounds.items s.next; end = b } ∷ []) (sym end) in
    let P : List Siblings → Type 0 =
    λ ss. 2 * open_size (node_trees store plain.list) ss + length ss < 2 * open_size
    (node_trees store plain.list) c.loop-siblings.stack.items + length c.loop-siblings.stack.items in
    subst P (sym stack)
    (smaller_stepped store plain c.loop-siblings.listed.items c.loop-siblings.stack.items rest
    s c.requires
    c.loop-siblings.invariant c.in-Some.ensures.items c.if-siblings.true)
