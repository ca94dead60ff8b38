-- What a call gives that reads a whole text.
use Rattle.std.proofs.Common.{◌≡◌, List, ℕ, Some, None, Result, Ok, Err, IfOk, sym, ◌∙◌}
use Rattle.json_decimal.specs.declared.error.JsonError.{JsonError}
use Rattle.json_decimal.specs.declared.error.JsonError.TheVariants as errors
use Rattle.json_decimal.specs.JsonValue.{JsonValue}
use Rattle.json_decimal.specs.Scan.{Gives}
use Rattle.json_decimal.specs.Reading.{value_in}
use Rattle.json_decimal.specs.Grammar.{IsJson}
use Rattle.json_decimal.specs.WellFormed.{IsWellFormed}
use Rattle.json_decimal.proofs.Sound.{value_in_sound}
use Rattle.json_decimal.proofs.Complete.{value_in_complete}
use Rattle.json_decimal.proofs.Formed.{json_formed}

module _ {X : Type 0} (view : X → JsonValue) (bs : List ℕ) where
  pub spelled : (r : Result X JsonError) → Gives view r (value_in bs)
      → IfOk r (λ x. IsJson bs (view x))
  spelled (Ok x) h = value_in_sound bs (view x) h
  spelled (Err e) h = tt

  pub formed : (r : Result X JsonError) → Gives view r (value_in bs)
      → IfOk r (λ x. IsWellFormed (view x))
  formed (Ok x) h = json_formed bs (view x) (value_in_sound bs (view x) h)
  formed (Err e) h = tt

  pub no_value : (r : Result X JsonError) → Gives view r (value_in bs) → r ≡ Err errors.NotJson
      → (v : JsonValue) → IsJson bs v → ⊥
  no_value (Ok x) h e v k = cc
  no_value (Err errors.NotJson) h e v k =
      let q : None ≡ Some v = sym h ∙ value_in_complete bs v k in cc
  no_value (Err errors.TooLong) h e v k = cc
  no_value (Err errors.OutOfMemory) h e v k = cc
