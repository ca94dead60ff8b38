use Rattle.std.proofs.Common.{Some, [], get_or, sym, ap, ◌∙◌, arith}
use Rattle.tile_uri.specs.Addresses.{is_external}
use Rattle.tree_nodes.proofs.Extending.{extends_then, grows_extends}
use Rattle.tree_nodes.proofs.ExternalChildren.{begins, can_follow, content_at, followed, no_levels, not_followed, passed}
use Rattle.tree_nodes.proofs.node_list.NodeList.push_external.Goals as goal

pub returns-then-handed-eq0 : goal.returns-then-handed-eq0
returns-then-handed-eq0 c =
    no_levels c.args.store.now c.args.limit c.args.self.now c.args.handed c.args.own.now.parts
    c.requires.sound c.if-handed-eq0.true

pub loop-i-init : goal.loop-i-init
loop-i-init c =
    begins c.args.store.now c.args.limit c.args.self.now c.args.handed c.args.own.now.parts
    c.requires.sound

pub loop-i-preserved-then-not-is_external : goal.loop-i-preserved-then-not-is_external
loop-i-preserved-then-not-is_external c =
    let contents = c.args.own.now.parts.contents in
    passed _ _ _ _ _ _ _ _ c.loop-i.invariant (get_or contents c.loop-i.i [])
    (content_at contents c.loop-i.i
    (omega (arith, c.loop-i-test.true, c.content_count-i-end.ensures)))
    (sym c.is_external.ensures ∙ c.if-not-is_external.true)

pub push_tileset-requires-clause-handed : goal.push_tileset-requires-clause-handed
push_tileset-requires-clause-handed c =
    can_follow _ _ _ _ _ _ _ _ c.loop-i.invariant c.requires.handed c.requires.some

pub returns-in-Err : goal.returns-in-Err
returns-in-Err c =
    let contents = c.args.own.now.parts.contents in
    let at =
    content_at contents c.loop-i.i
    (omega (arith, c.loop-i-test.true, c.content_count-i-end.ensures)) in (
      not_followed _ _ _ _ _ _ _ _ c.loop-i.invariant c.requires.handed c.requires.some
          (omega (arith, c.if-handed-eq0.false)) c.content.result.now
          (at ∙ ap Some (sym c.content.ensures.value))
          (ap is_external c.content.ensures.value ∙ sym c.is_external.ensures
          ∙ c.if-not-is_external.false)
          c.moved_error-error.result c.moved_error-error.ensures.value c.in-Err.e
          c.in-Err.ensures.0,
      extends_then c.args.self.now c.loop-i.self c.push_tileset.new.self
          (grows_extends _ _ _ _ _ c.loop-i.invariant.grows) c.in-Err.ensures.1,
    )

pub loop-i-preserved : goal.loop-i-preserved
loop-i-preserved c =
    let contents = c.args.own.now.parts.contents in
    let at =
    content_at contents c.loop-i.i
    (omega (arith, c.loop-i-test.true, c.content_count-i-end.ensures)) in
    followed _ _ _ _ _ _ _ _ c.loop-i.invariant c.requires.handed c.requires.some
    (omega (arith, c.if-handed-eq0.false)) c.content.result.now
    (at ∙ ap Some (sym c.content.ensures.value))
    (ap is_external c.content.ensures.value ∙ sym c.is_external.ensures
    ∙ c.if-not-is_external.false)
    c.moved_error-error.result c.moved_error-error.ensures.value c.push_tileset.new.self
    c.in-Ok.ensures
