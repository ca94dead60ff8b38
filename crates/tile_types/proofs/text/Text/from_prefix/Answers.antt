use Rattle.std.proofs.Common.{◌≡◌, take, ap, sym, ◌∙◌, subst, arith}
use Rattle.std.specs.Str.{IsUtf8}
use Rattle.tile_types.proofs.Prefixes.{take-take}
use Rattle.tile_types.proofs.text.Text.from_prefix.Goals as goal

pub block_text-requires-clause-utf8 : goal.block_text-requires-clause-utf8
block_text-requires-clause-utf8 c =
    let same : take c.args.len c.in-Some.block.now ≡ take c.args.len c.args.bytes.now = ap (take c.args.len) c.in-Some.ensures.cases.same ∙ take-take c.args.len 30 c.args.bytes.now (omega arith) in
    subst IsUtf8 (sym same) c.requires.utf8

pub returns-in-Some-clause-value : goal.returns-in-Some-clause-value
returns-in-Some-clause-value c =
    c.block_text.ensures ∙ ap (take c.args.len) c.in-Some.ensures.cases.same ∙ take-take c.args.len 30 c.args.bytes.now (omega arith)
