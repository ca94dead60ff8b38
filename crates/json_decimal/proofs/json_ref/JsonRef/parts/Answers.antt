use Rattle.std.proofs.Common.{◌∙◌, ap, take, drop}
use Rattle.std.proofs.lemmas.List.{take_rest}
use Rattle.json_decimal.proofs.Parted.{parts_are}
use Rattle.json_decimal.proofs.Told.{front_are_entries}
use Rattle.json_decimal.proofs.json_ref.JsonRef.parts.Goals as goal

pub invariant_of-result : goal.invariant_of-result
invariant_of-result c = record {
  told =
      front_are_entries c.args.self.bytes.now c.args.self.entries.now
      (drop 1 c.args.self.entries.now) c.entries_front.result.now c.entry.result
      c.inside-inside.result c.entry.ensures.first
      (c.entries_front.ensures ∙ ap (take c.inside-inside.result)
      (take_rest c.args.self.entries.now 1)) c.args.self.told;
}

pub returns : goal.returns
returns c =
    parts_are c.args.self.bytes.now c.args.self.entries.now (drop 1 c.args.self.entries.now)
    c.entries_front.result.now c.entry.result c.entry.ensures.first
    (c.entries_front.ensures ∙ ap (take c.inside-inside.result)
    (take_rest c.args.self.entries.now 1)
    ∙ ap (λ n. take n (drop 1 c.args.self.entries.now)) c.inside-inside.ensures)
