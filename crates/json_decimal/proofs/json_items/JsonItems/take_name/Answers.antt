use Rattle.json_decimal.specs.Entries.{inside}
use Rattle.json_decimal.proofs.Parted.{no_name_is}
use Rattle.json_decimal.proofs.Told.{behind_are_entries}
use Rattle.json_decimal.proofs.json_items.JsonItems.take_name.Goals as goal

pub invariant_of-self-in_default-form : goal.invariant_of-self-in_default-form
invariant_of-self-in_default-form c = record {
  told =
      behind_are_entries c.args.self.now.bytes.now c.args.self.now.entries.now c.in-Some.rest.now
      c.others-self.result.now c.in-Some.first.now
      (inside c.args.self.now.bytes.now c.in-Some.first.now) c.in-Some.ensures.cases.0
      c.others-self.ensures c.args.self.now.told;
}

pub returns-in_default-form : goal.returns-in_default-form
returns-in_default-form c = record {
  first =
      no_name_is c.args.self.now.bytes.now c.args.self.now.entries.now c.in-Some.rest.now
      c.others-self.result.now c.in-Some.first.now c.form.result
      c.in-Some.ensures.cases.0 c.others-self.ensures c.form.ensures c.in_default-form.not-Words;
  end = tt;
}
