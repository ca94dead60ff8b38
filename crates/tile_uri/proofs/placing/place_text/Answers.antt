use Rattle.std.proofs.Common.{subst, sym}
use Rattle.std.specs.Prelude.{IsUtf8}
use Rattle.std.proofs.lemmas.Str.{IsUtf8-append}
use Rattle.tile_uri.proofs.placing.place_text.Goals as goal

pub returns-clause-utf8 : goal.returns-clause-utf8
returns-clause-utf8 c =
    subst IsUtf8 (sym c.place_bytes.ensures.written)
    (IsUtf8-append c.as_bytes.result.now _ c.as_bytes.ensures.utf8 c.requires.utf8)
