use Rattle.json_decimal.proofs.Told.{entry_extent}
use Rattle.json_decimal.proofs.Extents.{number_extent_utf8}
use Rattle.json_decimal.specs.declared.form.JsonForm.TheVariants as forms
use Rattle.json_decimal.proofs.entry.Entry.number.Goals as goal

pub from_utf8_unchecked-requires : goal.from_utf8_unchecked-requires
from_utf8_unchecked-requires c =
    rw c.spelled.ensures (number_extent_utf8 _ c.args.self.extent
    (entry_extent c.args.bytes.now c.args.self forms.Number c.requires c.in-Number.ensures))
