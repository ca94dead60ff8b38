-- What is read, or the first cause why it isn't.
use Rattle.std.specs.Prelude.{◌≡◌, ⊤, Bool, if◌then◌else◌, Result, Ok, Err}
pub use Rattle.json_decimal.specs.FirstCauses.{◌>>=◌, or_cause, each, seen_by}
use Rattle.meta_tables.specs.declared.error.TableError.{TableError}
use Rattle.meta_tables.specs.declared.error.TableError.TheVariants as cause

-- what is read, or the first cause
abbrev pub Read : Type 0 → Type 0
Read A = Result A TableError

-- this has to be so
abbrev pub require : TableError → Bool → Read (Unit {0})
require e b = if b then Ok tt else Err e

-- a call that ends with this cause says so of what is read; want of memory may come anywhere
abbrev pub Fails : {A : Type 0} → TableError → Read A → Type 0
Fails cause.OutOfMemory read = ⊤
Fails e read = read ≡ Err e

-- what a call answers, seen by `view`, is what is read or its first cause, unless memory ran out
abbrev pub Gives : {X A : Type 0} → (X → A) → Result X TableError → Read A → Type 0
Gives view (Ok x) read = read ≡ Ok (view x)
Gives view (Err e) read = Fails e read
