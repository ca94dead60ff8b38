-- Why an engine isn't opened.
use Rattle.std.specs.Prelude.{ℕ, ◌≡◌, Err, List}
use Rattle.tileset_schema.specs.Documents.{document}
use Rattle.engine_core.specs.declared.error.OpenError.{OpenError}
use Rattle.engine_core.specs.declared.error.OpenError.TheVariants.{Document, OutOfMemory}

-- the bytes aren't a tileset, and this is the first cause; or memory ran out
abbrev pub RefusesOpening : (root bytes : List ℕ) → OpenError → Type 0
RefusesOpening root bytes (Document error) = document bytes root ≡ Err error
RefusesOpening root bytes OutOfMemory = Unit {0}
