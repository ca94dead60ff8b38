-- What is read from the bytes of a tileset.
use Rattle.std.specs.Prelude.{option_map}
use Rattle.std.proofs.Common.{ℕ, ◌≡◌, ◌≢◌, ◌⊎◌, inl, inr, Some, None, Ok, Err, List, refl, sym, ◌∙◌}
use Rattle.std.proofs.Common.{ap}
use Rattle.tile_uri.specs.declared.error.UriError.{UriError}
use Rattle.tile_uri.specs.declared.error.UriError.TheVariants.{OutOfMemory}
use Rattle.tile_uri.specs.Addresses.{address_of}
use Rattle.tileset_schema.specs.declared.error.DocumentError.{DocumentError}
use Rattle.tileset_schema.specs.Causes.{Read}
use Rattle.tileset_schema.specs.Documents.{document}
use Rattle.tileset_schema.specs.Tiles.{WrittenTile}
use Rattle.tileset_schema.specs.Preorder.{Row, rows, rows_read}
use Rattle.doc_store.specs.Docs.{read_at, if_read, tileset_in}
use Rattle.doc_store.specs.States.{rows_in}

-- the rows of what is read
pub read_rows : (r : Read WrittenTile) (rs : List Row) → rows_read r ≡ Ok rs
    → option_map rows (if_read r) ≡ Some rs
read_rows (Ok root) rs e = let same : rows root ≡ rs = cc in ap Some same
read_rows (Err cause) rs e = cc

pub no_rows : (r : Read WrittenTile) (cause : DocumentError) → rows_read r ≡ Err cause
    → option_map rows (if_read r) ≡ None
no_rows (Ok root) cause e = cc
no_rows (Err other) cause e = refl

-- there is no tileset at a text that stands for no address
pub refused_address : (address bytes : List ℕ) (e : UriError) → address_of address ≡ Err e
    → rows_in address bytes ≡ None
unfolding tileset_in
refused_address address bytes e none = ap (λ r. option_map rows (read_at bytes r)) none

-- at the text of an address it is the document below that address
pub below_address : (address bytes base : List ℕ) → address_of address ≡ Ok base
    → rows_in address bytes ≡ option_map rows (if_read (document bytes base))
unfolding tileset_in
below_address address bytes base is = ap (λ r. option_map rows (read_at bytes r)) is

-- a cause that isn't want of memory says that there is none
pub refuses : (text address bytes : List ℕ) (found cause : UriError) → text ≡ address
    → found ≡ cause → cause ≢ OutOfMemory
    → (found ≡ OutOfMemory) ⊎ (address_of text ≡ Err found) → None ≡ rows_in address bytes
refuses text address bytes found cause same is other (inl memory) =
    absurd (other (sym is ∙ memory))
refuses text address bytes found cause same is other (inr none) =
    sym (refused_address address bytes found (ap address_of (sym same) ∙ none))
