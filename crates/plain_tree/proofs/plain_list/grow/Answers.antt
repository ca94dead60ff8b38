use Rattle.std.proofs.Common.{◌∷◌, ◌++◌, [], List, ℕ, refl, ◌∙◌, ap, arith}
use Rattle.plain_tree.proofs.WholeTrees.{begins, ended, refused, smaller, stepped}
use Rattle.plain_tree.proofs.plain_list.grow.Goals as goal

pub loop-place-init : goal.loop-place-init
loop-place-init c =
    begins c.args.store.now c.args.limit c.args.list.now c.requires.sound c.requires.one
    c.push.new.self.items
    (c.in-Ok.ensures.items ∙ ap (λ (bs : List ℕ). bs ++ 1 ∷ []) c.new-bounds.ensures.items)

pub returns-in-Err-clause-refused : goal.returns-in-Err-clause-refused
returns-in-Err-clause-refused c =
    refused c.args.store.now c.args.limit c.args.list.now c.loop-place.list
    c.loop-place.bounds.items c.loop-place.place c.loop-place.invariant
    (omega (arith, c.loop-place-test.true, c.len.ensures, c.loop-place.list.nodes.ok.0)) c.in-Err.e
    c.in-Err.ensures.0

pub loop-place-smaller : goal.loop-place-smaller
loop-place-smaller c =
    omega (
      arith,
      smaller c.args.store.now c.args.limit c.args.list.now c.loop-place.list
          c.loop-place.bounds.items c.loop-place.place c.loop-place.invariant
          (omega (arith, c.loop-place-test.true, c.len.ensures, c.loop-place.list.nodes.ok.0)),
    )

pub loop-place-preserved : goal.loop-place-preserved
loop-place-preserved c =
    stepped c.args.store.now c.args.limit c.args.list.now c.loop-place.list
    c.loop-place.bounds.items c.loop-place.place c.loop-place.invariant
    (omega (arith, c.loop-place-test.true, c.len.ensures, c.loop-place.list.nodes.ok.0))
    c.push_children.new.self _ _ c.len-end.result c.in-Ok-push_children.ensures.0 c.in-Ok-push_children.ensures.1
    (omega (arith, c.len-end.ensures, c.push_children.new.self.nodes.ok.0)) refl refl refl
    (λ s. s) c.in-Ok-push.ensures.items

pub returns-clause-grown : goal.returns-clause-grown
returns-clause-grown c =
    ended c.args.store.now c.args.limit c.args.list.now c.loop-place.list
    c.loop-place.bounds.items c.loop-place.place c.loop-place.invariant
    (omega (arith, c.loop-place-test.false, c.len.ensures, c.loop-place.list.nodes.ok.0))
