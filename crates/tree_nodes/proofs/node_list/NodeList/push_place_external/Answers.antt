use Rattle.std.proofs.Common.{arith}
use Rattle.tree_nodes.proofs.Extending.{extends_then, grows_extends}
use Rattle.tree_nodes.proofs.PlaceExternals.{all_followed, can_follow, found_some, is_place, none_deep, none_followed, not_followed, number_now, one_followed}
use Rattle.tree_nodes.proofs.node_list.NodeList.push_place_external.Goals as goal

pub returns-then-handed-eq0 : goal.returns-then-handed-eq0
returns-then-handed-eq0 c =
    none_deep c.args.store.now c.args.limit c.args.self.now c.args.handed c.args.entry
    c.requires.parent c.requires.sound c.if-handed-eq0.true

pub loop-number-init : goal.loop-number-init
loop-number-init c =
    none_followed c.args.store.now c.args.limit c.args.self.now c.args.handed c.args.entry
    c.requires.sound

pub root-requires : goal.root-requires
root-requires c = number_now _ _ _ _ _ c.requires.parent _ _ c.loop-number.invariant

pub error_at-error-requires : goal.error_at-error-requires
error_at-error-requires c =
    is_place _ _ _ _ _ c.requires.parent _ _ c.loop-number.invariant c.root.result c.root.ensures

pub push_found_tileset-requires-clause-handed : goal.push_found_tileset-requires-clause-handed
push_found_tileset-requires-clause-handed c =
    can_follow _ _ _ _ _ c.requires.parent _ _ c.loop-number.invariant c.requires.handed
    c.requires.some

pub push_found_tileset-requires-clause-found : goal.push_found_tileset-requires-clause-found
push_found_tileset-requires-clause-found c =
    found_some c.args.store.now c.index.result.now c.text-address.result.now c.in-Ok.found
    c.text-address.ensures.value
    (record { address = c.text-address.ensures.address; short = c.text-address.ensures.short })
    c.in-Ok.ensures

pub returns-in-Err : goal.returns-in-Err
returns-in-Err c =
    let refused = c.in-Err.ensures c.text-address.result.now c.in-Ok.ensures in (
      not_followed c.args.store.now c.args.limit c.args.self.now c.args.handed c.args.entry
          c.requires.parent c.loop-number.self c.loop-number.number c.loop-number.invariant
          c.loop-number-test.true c.requires.handed c.requires.some (omega (arith, c.if-handed-eq0.false))
          c.text-address.result.now c.index.result.now c.text-address.ensures.value c.index.ensures
          c.root.result c.root.ensures c.error_at-error.result c.error_at-error.ensures.value c.in-Err.e
          refused.0,
      extends_then c.args.self.now c.loop-number.self c.push_found_tileset.new.self
          (grows_extends _ _ _ _ _ c.loop-number.invariant.grows) refused.1,
    )

pub loop-number-preserved : goal.loop-number-preserved
loop-number-preserved c =
    one_followed c.args.store.now c.args.limit c.args.self.now c.args.handed c.args.entry
    c.requires.parent c.loop-number.self c.loop-number.number c.loop-number.invariant
    c.loop-number-test.true c.requires.handed c.requires.some (omega (arith, c.if-handed-eq0.false))
    c.text-address.result.now c.index.result.now c.text-address.ensures.value c.index.ensures
    c.root.result c.root.ensures c.error_at-error.result c.error_at-error.ensures.value
    c.push_found_tileset.new.self
    (c.in-Ok-push_found_tileset.ensures c.text-address.result.now c.in-Ok.ensures)

pub returns : goal.returns
returns c =
    all_followed _ _ _ _ _ c.requires.parent _ _ c.loop-number.invariant
    (omega (arith, c.loop-number-test.false))
