-- Libraries: which address has which bytes.
use Rattle.std.specs.Prelude.{◌≡◌, ℕ, ◌<◌, List, [], ◌∷◌, length, Option, Some, None, if◌then◌else◌, bytes_eq}
use Rattle.source_port.specs.declared.library.NamedFile.{NamedFile}

-- a finite map from addresses to bytes: of an address the last file counts
abbrev pub Library : Type 0
Library = List NamedFile

-- the later of two answers, where there is one
abbrev pub later : Option (List ℕ) → Option (List ℕ) → Option (List ℕ)
later (Some bytes) earlier = Some bytes
later None earlier = earlier

-- the bytes that the library has at an address
abbrev pub bytes_at : Library → List ℕ → Option (List ℕ)
bytes_at [] address = None
bytes_at (file ∷ files) address =
    later (bytes_at files address) (if bytes_eq file.address address then Some file.bytes else None)

-- where the library is told, it has these bytes at that address
abbrev pub HasBytes : Option Library → List ℕ → List ℕ → Type 0
HasBytes None address bytes = Unit {0}
HasBytes (Some library) address bytes = bytes_at library address ≡ Some bytes

-- where the library is told, it has nothing at that address
abbrev pub Lacks : Option Library → List ℕ → Type 0
Lacks None address = Unit {0}
Lacks (Some library) address = bytes_at library address ≡ None

-- where the library is told, what it has at that address is longer than the limit
abbrev pub PassesLimit : Option Library → List ℕ → ℕ → Type 0
PassesLimit None address limit = Unit {0}
PassesLimit (Some library) address limit = (bytes : List ℕ) × (bytes_at library address ≡ Some bytes) × (limit < length bytes)
