use Rattle.std.proofs.lemmas.List.{nil_from_length}
use Rattle.json_decimal.specs.Printed as texts
use Rattle.json_decimal.proofs.Escaping.{last_run, byte_added, kept_behind}
use Rattle.json_decimal.proofs.quoting.push_escaped.Goals as goal

pub returns-in_default-clause-ok : goal.returns-in_default-clause-ok
returns-in_default-clause-ok c =
    last_run c.args.into.now.items c.loop-byte.into.items c.extend_from_slice.new.self.items
    c.args.text.now c.loop-byte.rest.now c.split_at.result.0.now c.split_at.result.1.now
    c.plain_len.result c.plain_len.ensures.value c.split_at.ensures.front c.split_at.ensures.back
    c.in_ok-extend_from_slice.ensures.items c.loop-byte.invariant.told
    (nil_from_length c.split_at.result.1.now c.in_default.ensures.cases)

pub loop-byte-preserved : goal.loop-byte-preserved
loop-byte-preserved c = record {
  told =
      byte_added c.args.into.now.items c.loop-byte.into.items c.extend_from_slice.new.self.items
      c.args.text.now c.loop-byte.rest.now c.split_at.result.0.now c.split_at.result.1.now
      c.plain_len.result c.plain_len.ensures.value c.split_at.ensures.front c.split_at.ensures.back
      c.in_ok-extend_from_slice.ensures.items c.loop-byte.invariant.told
      c.push_byte.new.into.items c.in-Some.byte.now c.in-Some.behind.now
      c.in-Some.ensures.cases.0
      c.in_ok-push_byte.ensures.ok;
  kept =
      kept_behind c.args.into.now.items c.loop-byte.into.items c.extend_from_slice.new.self.items
      c.push_byte.new.into.items c.split_at.result.0.now (texts.escaped c.in-Some.byte.now)
      c.in_ok-extend_from_slice.ensures.items c.in_ok-push_byte.ensures.ok c.loop-byte.invariant.kept;
}
