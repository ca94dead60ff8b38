use Rattle.json_decimal.specs.Entries.{inside}
use Rattle.json_decimal.proofs.Parted.{next_is}
use Rattle.json_decimal.proofs.Told.{behind_are_entries}
use Rattle.json_decimal.proofs.json_items.JsonItems.take_next.Goals as goal

pub invariant_of-self : goal.invariant_of-self
invariant_of-self c = record {
  told =
      behind_are_entries c.args.self.now.bytes.now c.args.self.now.entries.now c.in-Some.rest.now
      c.others-self.result.now c.in-Some.first.now
      (inside c.args.self.now.bytes.now c.in-Some.first.now) c.in-Some.ensures.cases.0
      c.others-self.ensures c.args.self.now.told;
}

pub returns-clause-first : goal.returns-clause-first
returns-clause-first c =
    next_is c.args.self.now.bytes.now c.args.self.now.entries.now c.in-Some.rest.now
    c.others-self.result.now c.in-Some.first.now
    c.in-Some.ensures.cases.0 c.others-self.ensures
