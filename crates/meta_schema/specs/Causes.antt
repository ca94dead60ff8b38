-- What is read, or the first cause why it isn't.
use Rattle.std.specs.Prelude.{◌≡◌, ⊤, Result, Ok, Err}
pub use Rattle.json_decimal.specs.FirstCauses.{◌>>=◌, or_cause, or_default, each, seen_by}
use Rattle.meta_schema.specs.declared.error.SchemaError.{SchemaError}
use Rattle.meta_schema.specs.declared.error.SchemaError.TheVariants as cause

-- what is read, or the first cause
abbrev pub Read : Type 0 → Type 0
Read A = Result A SchemaError

-- a call that ends with this cause says so of what is read; want of memory may come anywhere
abbrev pub Fails : {A : Type 0} → SchemaError → Read A → Type 0
Fails cause.OutOfMemory read = ⊤
Fails e read = read ≡ Err e

-- what a call answers, seen by `view`, is what is read or its first cause, unless memory ran out
abbrev pub Gives : {X A : Type 0} → (X → A) → Result X SchemaError → Read A → Type 0
Gives view (Ok x) read = read ≡ Ok (view x)
Gives view (Err e) read = Fails e read
