use Rattle.std.proofs.Common.{length, []}
use Rattle.json_decimal.specs.Entries.{value_from}
use Rattle.json_decimal.proofs.Leaves.{literal_is}
use Rattle.json_decimal.proofs.Added.{adds_leaf}
use Rattle.json_decimal.proofs.primitives.literal.Goals as goal

pub returns : goal.returns
returns c = record {
  what = value_from c.args.spelled.now [];
  is_read =
      literal_is c.args.word.now c.args.spelled.now c.in_ok-rest.rest.now
      (value_from c.args.spelled.now []) c.in_ok-rest.ensures;
  adds =
      adds_leaf c.args.bytes.now c.args.spelled.now (length c.args.word.now)
      c.args.entries.now.items c.add.new.entries.items c.requires.ends c.requires.some
      (c.requires.leaf (length c.args.word.now)) c.in_ok-add.ensures.ok;
}
