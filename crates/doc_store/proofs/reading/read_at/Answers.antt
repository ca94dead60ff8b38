use Rattle.std.proofs.Common.{sym, ◌∙◌, ap}
use Rattle.tile_uri.specs.declared.error.UriError.TheVariants.{NotAnAddress, TooLong, Placeholder}
use Rattle.tile_uri.specs.Addresses.{address_of}
use Rattle.doc_store.proofs.Tilesets.{below_address, refuses}
use Rattle.doc_store.proofs.reading.read_at.Goals as goal

pub returns-in-Ok-clause-tiles : goal.returns-in-Ok-clause-tiles
returns-in-Ok-clause-tiles c =
    rw (below_address c.args.address.now c.args.bytes.now c.in-Ok.base
    (ap address_of (sym c.as_str.ensures.value) ∙ c.in-Ok.ensures)) c.read_below.ensures.tiles

pub returns-in-Err-NotAnAddress-clause-tiles : goal.returns-in-Err-NotAnAddress-clause-tiles
returns-in-Err-NotAnAddress-clause-tiles c =
    let arm = c.in-Err-NotAnAddress in
    refuses c.as_str.result.now c.args.address.now c.args.bytes.now arm.field-0 NotAnAddress
    c.as_str.ensures.value arm.field-0-is (λ e. cc) arm.ensures

pub returns-in-Err-TooLong-clause-tiles : goal.returns-in-Err-TooLong-clause-tiles
returns-in-Err-TooLong-clause-tiles c =
    let arm = c.in-Err-TooLong in
    refuses c.as_str.result.now c.args.address.now c.args.bytes.now arm.field-0 TooLong
    c.as_str.ensures.value arm.field-0-is (λ e. cc) arm.ensures

pub returns-in-Err-Placeholder-clause-tiles : goal.returns-in-Err-Placeholder-clause-tiles
returns-in-Err-Placeholder-clause-tiles c =
    let arm = c.in-Err-Placeholder in
    refuses c.as_str.result.now c.args.address.now c.args.bytes.now arm.field-0 Placeholder
    c.as_str.ensures.value arm.field-0-is (λ e. cc) arm.ensures
