use Rattle.std.proofs.Common.{subst}
use Rattle.std.proofs.lemmas.Str.{IsUtf8-had}
use Rattle.tile_types.specs.Texts.{IsForm}
use Rattle.tile_types.specs.declared.text.Form.TheVariants.{Short}
use Rattle.tile_types.proofs.text.Text.as_str.Goals as goal

pub from_utf8_unchecked-requires : goal.from_utf8_unchecked-requires
from_utf8_unchecked-requires c =
    let h : IsForm (Short c.in-Short.len c.in-Short.bytes) = subst IsForm c.in-Short.is c.self.invariant in
    IsUtf8-had _ h.1
