use Rattle.std.proofs.Common.{◌∷◌, ◌++◌, [], sym, ◌∙◌, ap, subst, arith}
use Rattle.fixed_geometry.specs.Maps.{Map, IsBounded, after}
use Rattle.tree_nodes.specs.Places.{map_in}
use Rattle.tree_nodes.proofs.Fronts.{IsFront-is}
use Rattle.tree_nodes.proofs.Maps.{map_read, same_below, more_below}
use Rattle.tree_nodes.proofs.node_list.transform_below.Goals as goal

pub returns-in_default-clause-below : goal.returns-in_default-clause-below
returns-in_default-clause-below c =
    let maps = c.args.transforms.now.items in
    let read = map_read maps c.args.above c.index.result.now c.requires c.index.ensures in
    same_below maps c.args.above c.args.own.now.parts.transform c.requires
    (sym c.in_default.ensures) (subst IsBounded (sym read) c.max_scale.ensures.within)

pub returns-clause-below : goal.returns-clause-below
returns-clause-below c =
    let maps = c.args.transforms.now.items in
    let read = map_read maps c.args.above c.index-2.result.now c.requires c.index-2.ensures in
    more_below maps c.push.new.self.items c.args.above c.args.own.now.parts.transform
    _ (omega (arith, c.in_ok-number.ensures, c.len.ensures, c.args.transforms.now.ok.0))
    (c.in_ok-push.ensures.items
    ∙ ap (λ (m : Map). maps ++ m ∷ []) (c.then-computed.ensures
    ∙ ap (λ (m : Map). after m c.in-Some.own.now) (sym read)
    ∙ ap (λ (m : Map). after (map_in maps c.args.above) m) (c.in-Some.ensures)))

pub returns-in_err-push-clause-front : goal.returns-in_err-push-clause-front
returns-in_err-push-clause-front c = IsFront-is _ _ c.in_err-push.ensures.items
