-- The contents of a cut: which are asked for, and what came of it.
use Rattle.std.specs.Prelude.{ℕ, ◌≡◌, ◌⊎◌, ◌≤◌, true, if◌then◌else◌, Option, Some, None, is_none, List, [], ◌∷◌, ◌++◌, length, map, fold, All, bytes_eq}
use Rattle.std.specs.List.{list_any}
use Rattle.source_port.specs.Library.{Library, HasBytes, Lacks, PassesLimit, bytes_at}
use Rattle.content_digest.specs.declared.limits.TheConstants.{CONTENT_LIMIT}
use Rattle.error_test.specs.Views.{ViewParts}
use Rattle.expanded_tree.specs.Tree.{Tree}
use Rattle.cut_core.specs.Cut.{Holdings, ideal}
use Rattle.cut_core.specs.declared.line.CutLine.{CutLine}
use Rattle.tree_expansion.specs.Whole.{if_within}
use Rattle.stream_cli.specs.Awaited.{nothing_absent}

-- the bytes of the content at each address, or none where it is absent
abbrev pub Contents : Type 0
Contents = List ℕ → Option (List ℕ)

-- the contents that a library has, within the limit
abbrev pub contents_of : Library → Contents
contents_of library address = if_within CONTENT_LIMIT (bytes_at library address)

-- what isn't absent is there
abbrev pub lacking : Contents → Holdings
lacking contents = record {
  resident = λ address. true;
  absent = λ address. is_none (contents address);
}

-- ---- which contents are asked for

-- one more address, unless it is among them
abbrev pub with_address : List (List ℕ) → List ℕ → List (List ℕ)
with_address seen address = if list_any (bytes_eq address) seen then seen else seen ++ address ∷ []

-- these addresses, each where it comes first
abbrev pub each_once : List (List ℕ) → List (List ℕ)
each_once addresses = fold with_address [] addresses

-- the addresses of lines, each once
abbrev pub addresses_in : List CutLine → List (List ℕ)
addresses_in lines = each_once (map (λ line. line.address) lines)

-- the addresses that a view shows once every content is there, each once
abbrev pub addresses_shown : ViewParts → Option Tree → List (List ℕ)
addresses_shown view root = addresses_in (ideal view nothing_absent root)

-- ---- what came of it

-- a content that was asked for: its bytes, or none where it is absent
pub record FetchedContent : Type 0 where
  pub address : List ℕ
  pub bytes : Option (List ℕ)

-- the bytes at each address, among those that were asked for
abbrev pub bytes_in : List FetchedContent → Contents
bytes_in [] address = None
bytes_in (c ∷ cs) address = if bytes_eq address c.address then c.bytes else bytes_in cs address

-- where the library is told: it has these bytes at the address, within the limit; or it has none
-- there, or more than the limit
abbrev pub GivesContent : Option Library → List ℕ → Option (List ℕ) → Type 0
GivesContent library address (Some bytes) =
    HasBytes library address bytes × (length bytes ≤ CONTENT_LIMIT)
GivesContent library address None =
    Lacks library address ⊎ PassesLimit library address CONTENT_LIMIT

abbrev pub WasGiven : Option Library → FetchedContent → Type 0
WasGiven library content = GivesContent library content.address content.bytes

-- the contents at these addresses were asked for, each once
pub record AreFetched (library : Option Library) (addresses : List (List ℕ))
    (contents : List FetchedContent) : Type 0 where
  pub each : map (λ content. content.address) contents ≡ addresses
  pub given : All (WasGiven library) contents
