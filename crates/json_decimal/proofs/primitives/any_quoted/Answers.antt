use Rattle.json_decimal.proofs.Leaves.{quoted_within, quoted_is_read}
use Rattle.json_decimal.proofs.primitives.any_quoted.Goals as goal

pub string_extent-requires : goal.string_extent-requires
string_extent-requires c =
    quoted_within c.args.spelled.now c.in_ok-inside.inside.now c.in_ok-plain.rest.now
    c.in_ok-inside.ensures c.in_ok-plain.ensures.behind

pub returns : goal.returns
returns c =
    quoted_is_read c.args.bytes.now c.args.spelled.now c.in_ok-inside.inside.now
    c.in_ok-plain.rest.now c.string_extent.result c.in_ok-plain.plain
    c.args.entries.now.items c.add.new.entries.items c.requires.ends c.in_ok-inside.ensures
    c.in_ok-plain.ensures.behind c.in_ok-plain.ensures.plain
    c.string_extent.ensures.plain c.string_extent.ensures.escaped c.in_ok-add.ensures.ok
