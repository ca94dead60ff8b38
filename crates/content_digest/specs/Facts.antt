-- What is kept of a content without its bytes.
use Rattle.std.specs.Prelude.{ℕ, List, length}
use Rattle.sha2.specs.Sha256.{sha256}
use Rattle.content_digest.specs.declared.facts.ContentFacts.{ContentFacts}

-- how many bytes there are, and their digest (FIPS 180-4)
abbrev pub facts_of : List ℕ → ContentFacts
facts_of bytes = record { length = length bytes; digest = sha256 bytes }
