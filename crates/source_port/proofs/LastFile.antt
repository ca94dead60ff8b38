-- The last file of an address, found from the back.
use Rattle.std.proofs.Common.{◌≡◌, ℕ, List, [], ◌∷◌, ◌++◌, Bool, true, false, Option, Some, None, refl, sym, ap, ◌∙◌, if◌then◌else◌}
use Rattle.std.specs.Str.{bytes_eq}
use Rattle.source_port.specs.declared.library.NamedFile.{NamedFile}
use Rattle.source_port.specs.Library.{Library, later, bytes_at}

later_assoc : (a b c : Option (List ℕ)) → later (later a b) c ≡ later a (later b c)
later_assoc None b c = refl
later_assoc (Some bytes) b c = refl

later-None : (a : Option (List ℕ)) → later a None ≡ a
later-None None = refl
later-None (Some bytes) = refl

-- what one file answers
abbrev answer_by : NamedFile → Bool → Option (List ℕ)
answer_by file same = if same then Some file.bytes else None

bytes_at-push : (address : List ℕ) (files : Library) (file : NamedFile) → bytes_at (files ++ file ∷ []) address ≡ later (answer_by file (bytes_eq file.address address)) (bytes_at files address)
bytes_at-push address [] file = sym (later-None (answer_by file (bytes_eq file.address address)))
bytes_at-push address (other ∷ files) file =
    ap (λ r. later r (answer_by other (bytes_eq other.address address))) (bytes_at-push address files file) ∙ later_assoc _ (bytes_at files address) _

pub at_last : (address : List ℕ) (files front : Library) (file : NamedFile) → files ≡ front ++ file ∷ [] → bytes_eq file.address address ≡ true → bytes_at files address ≡ Some file.bytes
at_last address files front file parts same =
    ap (λ (f : Library). bytes_at f address) parts ∙ bytes_at-push address front file ∙ ap (λ b. later (answer_by file b) (bytes_at front address)) same

pub before_last : (address : List ℕ) (files front : Library) (file : NamedFile) → files ≡ front ++ file ∷ [] → bytes_eq file.address address ≡ false → bytes_at files address ≡ bytes_at front address
before_last address files front file parts other =
    ap (λ (f : Library). bytes_at f address) parts ∙ bytes_at-push address front file ∙ ap (λ b. later (answer_by file b) (bytes_at front address)) other
