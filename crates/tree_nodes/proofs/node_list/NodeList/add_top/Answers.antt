use Rattle.std.specs.Prelude.{IfSome}
use Rattle.std.proofs.Common.{◌<◌, ◌^◌, length, refl, subst, arith, rules}
use Rattle.volumes.specs.Limits.{IsBoxInRange}
use Rattle.tileset_schema.specs.Implicit.{HasLevels}
use Rattle.tree_nodes.specs.declared.tables.Tables.{Tables}
use Rattle.tree_nodes.specs.declared.top.Top.{Top}
use Rattle.tree_nodes.proofs.Extending.{extends_tables}
use Rattle.tree_nodes.proofs.Fronts.{IsFront-is, IsFront-more, more_tops, more_transforms}
use Rattle.tree_nodes.proofs.Maps.{map_read}
use Rattle.tree_nodes.proofs.TopsAdded.{adds_top}
use Rattle.tree_nodes.proofs.node_list.NodeList.add_top.Goals as goal

pub returns-clause-top : goal.returns-clause-top
returns-clause-top c part says =
    let old = c.args.self.now in
    let own = c.args.own.now in
    let map = c.index-map.result.now in
    let entry : Top = record {
      name = c.in_ok-name.name;
      document = c.args.document;
      tile = c.args.tile;
      base = c.in_ok-base.base;
      transform = c.in_ok-transform.transform;
      refine = c.unwrap_or.result;
      request = c.moved_request.result;
      volume = c.moved.result;
      error = c.moved_error.result;
    } in
    let tables : Tables = record old.tables {
      transforms = c.transform_below.new.transforms;
      tops = c.push.new.self;
    } in
    adds_top c.args.store.now old tables c.args.handed c.args.document c.args.tile
    c.in_ok-number.number own part entry map c.requires.there c.requires.own says
    c.in_ok-transform.ensures.below
    (map_read tables.transforms.items entry.transform map c.in_ok-transform.ensures.below.there
    c.index-map.ensures)
    (record {
      name = c.in_ok-name.ensures;
      document_is = refl;
      tile_is = refl;
      base = c.in_ok-base.ensures;
      refine = search rules;
      request = c.moved_request.ensures.value;
      request_small = c.moved_request.ensures.within;
      volume = search rules;
      volume_small = c.moved.ensures.within;
      error = search rules;
      error_small = c.moved_error.ensures.bound;
    })
    c.in_ok-push.ensures.items
    (omega (arith, c.in_ok-number.ensures, c.len.ensures))
    (subst (λ o. IfSome o (λ p. HasLevels p.octree p.subtree_levels p.available_levels)) says
    c.tell_limits.ensures.levels)
    (subst (λ o. IfSome o (λ p. length p.contents < 2 ^ 32)) says
    c.tell_limits.ensures.contents)
    (subst (λ o. IfSome o (λ p. IsBoxInRange own.parts.volume)) says
    c.tell_limits.ensures.boxed)
    refl

pub returns-in_err-transform-clause-extends : goal.returns-in_err-transform-clause-extends
returns-in_err-transform-clause-extends c =
    extends_tables c.args.self.now _ refl
    (more_transforms c.args.self.now.tables _ refl c.transform_below.ensures.front)

pub returns-in_err-number-clause-extends : goal.returns-in_err-number-clause-extends
returns-in_err-number-clause-extends c =
    extends_tables c.args.self.now _ refl
    (more_transforms c.args.self.now.tables _ refl c.transform_below.ensures.front)

pub returns-in_err-push-clause-extends : goal.returns-in_err-push-clause-extends
returns-in_err-push-clause-extends c =
    extends_tables c.args.self.now _ refl
    (more_tops c.args.self.now.tables _ refl c.transform_below.ensures.front
    (IsFront-is _ _ c.in_err-push.ensures.items))

pub returns-clause-extends : goal.returns-clause-extends
returns-clause-extends c =
    extends_tables c.args.self.now _ refl
    (more_tops c.args.self.now.tables _ refl c.transform_below.ensures.front
    (IsFront-more _ _ _ c.in_ok-push.ensures.items))
