use Rattle.std.proofs.Common.{◌≡◌, Option, Result, Err, Vec, Global}
use Rattle.std.proofs.lemmas.Result.{err_from_is_err_and}
use Rattle.json_decimal.specs.declared.entry.Entry.{Entry}
use Rattle.json_decimal.specs.declared.error.JsonError.{JsonError}
use Rattle.json_decimal.specs.declared.error.JsonError.TheVariants as errors
use Rattle.json_decimal.specs.JsonValue.{JsonValue}
use Rattle.json_decimal.specs.Scan.{Gives}
use Rattle.json_decimal.specs.Reading.{value_in}
use Rattle.json_decimal.specs.Entries.{value_on}
use Rattle.json_decimal.proofs.Sound.{value_in_sound}
use Rattle.json_decimal.proofs.Formed.{json_formed}
use Rattle.json_decimal.proofs.Texts.{no_value}
use Rattle.json_decimal.proofs.json_text.JsonText.read.Goals as goal

same_refusal : {A B : Type 0} (r : Result A JsonError) (e f : JsonError) → r ≡ Err e → e ≡ f → r ≡ Err errors.NotJson → ◌≡◌ {A = Result B JsonError} (Err f) (Err errors.NotJson)
same_refusal r e f h k l = cc

-- what a refusal says doesn't depend on what is seen of a value
given : (view : Vec Entry Global → JsonValue) (e : JsonError) (read : Option JsonValue) → Gives view (Err e) read → Gives {X = JsonValue} (λ v. v) (Err e) read
given view errors.NotJson read h = h
given view errors.TooLong read h = tt
given view errors.OutOfMemory read h = tt

pub returns-in_err-entries-clause-refused : goal.returns-in_err-entries-clause-refused
returns-in_err-entries-clause-refused c h =
    let p = err_from_is_err_and c.from_residual.result c.from_residual.ensures.1 in
    no_value {X = JsonValue} (λ v. v) c.args.bytes.now (Err c.in_err-entries.field-0.0)
    (given (λ entries. value_on c.args.bytes.now entries.items) c.in_err-entries.field-0.0 (value_in c.args.bytes.now) c.in_err-entries.ensures.exact)
    (same_refusal c.from_residual.result p.0 c.in_err-entries.field-0.0 p.1 p.2 h)

pub returns-clause-value : goal.returns-clause-value
returns-clause-value c = value_in_sound c.args.bytes.now (value_on c.args.bytes.now c.in_ok-entries.entries.items) c.in_ok-entries.ensures.exact

pub returns-clause-well_formed : goal.returns-clause-well_formed
returns-clause-well_formed c = json_formed c.args.bytes.now (value_on c.args.bytes.now c.in_ok-entries.entries.items) (value_in_sound c.args.bytes.now (value_on c.args.bytes.now c.in_ok-entries.entries.items) c.in_ok-entries.ensures.exact)
