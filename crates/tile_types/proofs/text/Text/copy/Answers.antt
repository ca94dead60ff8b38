use Rattle.std.proofs.Common.{subst, sym, take}
use Rattle.std.proofs.lemmas.Str.{IsUtf8-had}
use Rattle.std.specs.Str.{IsUtf8}
use Rattle.tile_types.specs.Texts.{IsForm}
use Rattle.tile_types.specs.declared.text.Form.TheVariants.{Short}
use Rattle.tile_types.proofs.text.Text.copy.Goals as goal

pub block_text-requires-clause-utf8 : goal.block_text-requires-clause-utf8
block_text-requires-clause-utf8 c =
    let h : IsForm (Short c.in-Short.len c.in-Short.bytes) = subst IsForm c.in-Short.is c.self.invariant in
    subst (λ n. IsUtf8 (take n c.in-Short.bytes)) (sym c.from.ensures) (IsUtf8-had _ h.1)
