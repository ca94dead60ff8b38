use Rattle.std.proofs.Common.{subst}
use Rattle.std.proofs.lemmas.Str.{IsUtf8-had}
use Rattle.tile_types.specs.Texts.{IsForm}
use Rattle.tile_types.specs.declared.text.Form.TheVariants.{Short}
use Rattle.tile_types.proofs.text.Text.followed_by.Goals as goal

pub short_followed_by-requires-clause-utf8 : goal.short_followed_by-requires-clause-utf8
short_followed_by-requires-clause-utf8 c =
    let h : IsForm (Short c.in-Short.len c.in-Short.bytes) = subst IsForm c.in-Short.is c.self.invariant in
    IsUtf8-had _ h.1
