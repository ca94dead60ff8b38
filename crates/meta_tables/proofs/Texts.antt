-- What is so of each text of a column that was checked.
use Rattle.std.proofs.Common.{◌≡◌, ℕ, ◌+◌, ◌*◌, ◌<◌, Bool, true, false, Ok, length, refl, sym, ◌∙◌, ap}
use Rattle.std.proofs.lemmas.Bool.{leb-true}
use Rattle.std.specs.Str.{is_utf8}
use Rattle.meta_schema.specs.Schemas.{SchemaParts}
use Rattle.meta_schema.specs.declared.property.PropertyType.TheVariants.{Words}
use Rattle.meta_tables.specs.Causes.{require}
use Rattle.meta_tables.specs.Checks.{checks_of, text_checks, has_bytes}
use Rattle.meta_tables.specs.Offsets.{offset_size, are_offsets, are_utf8, text_at, HasText}
use Rattle.meta_tables.specs.Seen.{HasRow}
use Rattle.meta_tables.specs.Tables.{ColumnParts}
use Rattle.meta_tables.specs.declared.error.TableError.{TableError}
use Rattle.meta_tables.specs.declared.error.TableError.TheVariants.{ViewRange, Offsets, NotUtf8}
use Rattle.meta_tables.proofs.Chains.{then_ok}
use Rattle.meta_tables.proofs.EachRow.{has_text, text_is}

-- what was required is so
pub required : (e : TableError) (b : Bool) → require e b ≡ Ok tt → b ≡ true
required e true h = refl
required e false h = cc

module _ (c : ColumnParts) (row : ℕ) where
  abbrev pub Reads : Type 0
  Reads = HasText c.offset_type c.offsets c.values row
      × (is_utf8 (text_at c.offset_type c.offsets c.values row) ≡ true)

  checked_texts : (count : ℕ) → row < count → text_checks count c ≡ Ok tt → Reads
  checked_texts count less h =
      let needed = (count + 1) * offset_size c.offset_type in
      then_ok (has_bytes needed (length c.offsets)) _ tt h λ u there h.
      then_ok (require Offsets (are_offsets c.offset_type c.offsets c.values count)) _ tt h
      λ u are h.
      let enough = leb-true needed (length c.offsets) (required ViewRange _ (there ∙ refl)) in
      let rise = required Offsets (are_offsets c.offset_type c.offsets c.values count) are in
      let utf8 = required NotUtf8 (are_utf8 c.offset_type c.offsets c.values count) h in (
        has_text c.offset_type c.offsets c.values count rise row less enough,
        text_is c.offset_type c.offsets c.values count row less utf8,
      )

  pub reads_text : (schema : SchemaParts) → c.kind ≡ Words → HasRow schema c row → Reads
  reads_text schema is h =
      checked_texts h.count h.within (sym (ap (checks_of schema h.count c) is) ∙ h.is_column)
