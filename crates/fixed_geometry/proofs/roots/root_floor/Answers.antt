use Rattle.std.proofs.Common.{◌∙◌}
use Rattle.fixed_geometry.proofs.RootFacts.{is_floor_root}
use Rattle.fixed_geometry.proofs.roots.root_floor.Goals as goal

pub returns-then-is_root-clause-value : goal.returns-then-is_root-clause-value
returns-then-is_root-clause-value c =
    let is = c.is_root.ensures.0 c.if-is_root.true in
    c.from-then-is_root.ensures ∙ is_floor_root c.args.n c.saturating_f64_to_u64-near.result is.0
    is.1

pub returns-then-is_root-2-clause-value : goal.returns-then-is_root-2-clause-value
returns-then-is_root-2-clause-value c =
    let is = c.is_root-2.ensures.0 c.if-is_root-2.true in
    c.from-then-is_root-2.ensures ∙ is_floor_root c.args.n c.saturating_sub-below.result is.0 is.1

pub returns-clause-value : goal.returns-clause-value
returns-clause-value c = is_floor_root c.args.n c.isqrt.result c.isqrt.ensures.square_le
    c.isqrt.ensures.next_square_gt
