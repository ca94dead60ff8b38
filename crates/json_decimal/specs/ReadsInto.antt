-- What the private steps do that read a text into entries.
use Rattle.std.specs.Prelude.{◌≡◌, ℕ, ◌+◌, ◌-◌, List, [], ◌∷◌, ◌++◌, length, IsTrue, Option, Some, Result, Ok, Err}
use Rattle.std.proofs.Common.{Bor}
use Rattle.json_decimal.specs.JsonValue.{JsonValue, words}
use Rattle.json_decimal.specs.Scan.{Fails, skip}
use Rattle.json_decimal.specs.Entries.{form_from, inside_of, values_on, is_extent, AreEntries}
use Rattle.json_decimal.specs.declared.entry.Entry.{Entry}
use Rattle.json_decimal.specs.declared.error.JsonError.{JsonError}

-- the bytes end in these
pub record EndsIn (bytes back : List ℕ) : Type 0 where
  pub front : List ℕ
  pub spelled : bytes ≡ front ++ back

-- nothing inside the value that is spelled here has an entry, and any extent may stand in its own
pub record IsLeaf (spelled : List ℕ) (extent : ℕ) : Type 0 where
  pub nothing : inside_of spelled extent ≡ 0
  pub told : IsTrue (is_extent (form_from spelled) spelled extent)

-- the entries stand for these values, whatever entries come behind them
abbrev pub Stands : List ℕ → List Entry → List JsonValue → Type 0
Stands bytes es vs =
    (more : List Entry) (n : ℕ)
    → values_on bytes (es ++ more) 0 (length es + n) ≡ vs ++ values_on bytes more 0 n

-- to the old entries were added some that stand for these values
pub record AddsEntries (bytes : List ℕ) (old new : List Entry) (vs : List JsonValue) : Type 0 where
  pub added : List Entry
  pub all : new ≡ old ++ added
  pub stands : Stands bytes added vs
  pub entries : AreEntries bytes added

-- what was read, up to white space that is still there, and that the entries for it were added
pub record IsReadInto {A : Type 0} (values_of : A → List JsonValue) (bytes : List ℕ)
    (old new : List Entry) (rest : List ℕ) (read : Option (A × List ℕ)) : Type 0 where
  pub what : A
  pub is_read : read ≡ Some (what, skip rest)
  pub adds : AddsEntries bytes old new (values_of what)

-- What a step returned is what is read, and its entries were added, unless memory ran out.
abbrev pub ReadsInto : {A : Type 0} → (A → List JsonValue) → List ℕ → List Entry → List Entry
    → Result (Bor (List ℕ)) JsonError → Option (A × List ℕ) → Type 0
ReadsInto values_of bytes old new (Ok rest) read = IsReadInto values_of bytes old new rest.now read
ReadsInto values_of bytes old new (Err e) read = Fails e read

abbrev pub one : JsonValue → List JsonValue
one v = v ∷ []

abbrev pub name_alone : List ℕ → List JsonValue
name_alone n = words n ∷ []

abbrev pub member_alone : List ℕ × JsonValue → List JsonValue
member_alone p = words p.0 ∷ p.1 ∷ []

-- the entry of what `spelled` begins with, the last part of the bytes
abbrev pub entry : List ℕ → List ℕ → ℕ → Entry
entry bytes spelled extent = record { start = length bytes - length spelled; extent = extent }
