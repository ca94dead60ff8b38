use Rattle.std.proofs.Common.{◌≡◌, ◌<◌, ◌^◌, length, map, refl, subst, ap, ◌∙◌, arith}
use Rattle.std.proofs.lemmas.Simd.{mask_l-lt}
use Rattle.std.proofs.lemmas.List.{length-map}
use lib.Lanes.{mask_l}
use Rattle.json_decimal.specs.Numbers.{is_other}
use Rattle.json_decimal.proofs.Fronts.{mask-push}
use Rattle.json_decimal.proofs.blocks.others.Goals as goal

pub overflow_add-result : goal.overflow_add-result
overflow_add-result c =
    let long : length (map is_other c.args.block.now) ≡ 16 =
    length-map c.args.block.now is_other ∙ c.told-block in
    let below : mask_l (map is_other c.args.block.now) < 2 ^ 16 =
    subst (λ k. mask_l (map is_other c.args.block.now) < 2 ^ k) long
    (mask_l-lt (map is_other c.args.block.now)) in
    omega (arith, c.others_within.ensures, below)

pub returns : goal.returns
returns c =
    let long : 2 ^ length c.args.block.now ≡ 65536 = ap (λ k. 2 ^ k) c.told-block in
    omega (arith, c.others_within.ensures, long, mask-push is_other 0 c.args.block.now refl)
