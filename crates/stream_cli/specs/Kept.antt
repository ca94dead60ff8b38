-- What is kept of contents once their bytes are dropped.
use Rattle.std.specs.Prelude.{ℕ, Bool, ◌≡◌, Option, Some, None, is_some, option_map, List, [], ◌∷◌, length, map, filter, bytes_eq}
use Rattle.std.specs.List.{flat_map, list_any}
use Rattle.std.specs.Map.{lookup}
use Rattle.std.specs.Option.{option_and_then}
use Rattle.content_digest.specs.Facts.{facts_of}
use Rattle.content_digest.specs.declared.facts.ContentFacts.{ContentFacts}
use Rattle.cut_core.specs.declared.line.CutLine.{CutLine}
use Rattle.frame_text.specs.Lines.{show_line}
use Rattle.stream_cli.specs.Contents.{AreFetched, FetchedContent, GivesContent}
use Rattle.stream_cli.specs.Loading.{Fetches}
use Rattle.stream_cli.specs.Report.{count_line}
use Rattle.stream_cli.specs.Sides.{SourceRun, Stays}

-- of each content its address, and its length and digest, or none where it is absent
abbrev pub Kept : Type 0
Kept = List (List ℕ × Option ContentFacts)

abbrev pub kept_of : FetchedContent → List ℕ × Option ContentFacts
kept_of content = (content.address, option_map facts_of content.bytes)

-- something is kept of the content at an address
abbrev pub keeps : Kept → List ℕ → Bool
keeps kept address = list_any (bytes_eq address) (map (λ entry. entry.0) kept)

-- what is kept of the content at an address; nothing where it is absent
abbrev pub facts_at : Kept → List ℕ → Option ContentFacts
facts_at kept address = option_and_then (λ facts. facts) (lookup (bytes_eq address) kept)

-- the content at an address was fetched, and this is kept of it
pub record KeepsOne (source : SourceRun) (address : List ℕ)
    (facts : Option ContentFacts) : Type 0 where
  pub bytes : Option (List ℕ)
  pub given : GivesContent source.library address bytes
  pub kept : facts ≡ option_map facts_of bytes
  pub fetches : Fetches source 1
  pub unfailed : Stays source.faults

-- the contents at these addresses were fetched, each by one fetch, of which none failed
pub record KeepsFetched (source : SourceRun) (addresses : List (List ℕ))
    (entries : Kept) : Type 0 where
  pub contents : List FetchedContent
  pub fetched : AreFetched source.library addresses contents
  pub kept : entries ≡ map kept_of contents
  pub fetches : Fetches source (length contents)
  pub unfailed : Stays source.faults

-- the line of a content, by what is kept of it
abbrev pub kept_line : CutLine → Option ContentFacts → List (List ℕ)
kept_line line None = []
kept_line line (Some facts) =
    show_line line.tile line.address facts.length facts.digest ∷ []

abbrev pub kept_lines : Kept → List CutLine → List (List ℕ)
kept_lines kept lines = flat_map (λ line. kept_line line (facts_at kept line.address)) lines

-- the lines whose content is there
abbrev pub lines_there : Kept → List CutLine → List CutLine
lines_there kept lines = filter (λ line. is_some (facts_at kept line.address)) lines

-- the text of a cut, by what is kept of its contents
abbrev pub kept_text : Kept → List CutLine → List (List ℕ)
kept_text kept lines = count_line (length (lines_there kept lines)) ∷ kept_lines kept lines
