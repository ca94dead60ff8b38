use Rattle.std.proofs.Common.{refl}
use Rattle.json_decimal.specs.JsonValue.{pairs_of}
use Rattle.meta_schema.proofs.Effective.{put_next}
use Rattle.meta_schema.proofs.members.NamedMembers.of.Goals as goal

pub loop-pair-preserved : goal.loop-pair-preserved
loop-pair-preserved c =
    put_next (pairs_of c.args.object.now) c.as_slice-pair-items.result.now c.loop-pair.pair-index
    c.pair-item.result c.loop-pair.values.entries c.insert.new.self.entries _ _
    c.as_slice-pair-items.ensures c.loop-pair-test.true c.pair-item.is c.as_str.ensures.value refl
    c.loop-pair.invariant c.in_ok-insert.ensures.entries
