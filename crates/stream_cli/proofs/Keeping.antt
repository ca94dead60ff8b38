-- What is kept of contents, as they are fetched one behind another, and the text that it gives.
use Rattle.std.proofs.Common.{◌≡◌, ℕ, ◌+◌, true, false, Option, Some, None, List, [], ◌∷◌, ◌++◌, length, map, filter, take}
use Rattle.std.proofs.Common.{refl, sym, ap, ◌∙◌, bytes_eq, cond, length-append, option_map, subst}
use Rattle.std.specs.Map.{lookup}
use Rattle.std.specs.Option.{option_and_then}
use Rattle.std.specs.Prelude.{if◌then◌else◌}
use Rattle.std.specs.List.{list_any, slice_get}
use Rattle.std.proofs.lemmas.List.{map-append}
use Rattle.std.proofs.lemmas.List.Elements.{All-nil, All-push}
use Rattle.std.proofs.lemmas.List.Sums.{fold-append}
use Rattle.source_port.specs.Counts.{count_after}
use Rattle.content_digest.specs.Facts.{facts_of}
use Rattle.content_digest.specs.declared.facts.ContentFacts.{ContentFacts}
use Rattle.cut_core.specs.declared.line.CutLine.{CutLine}
use Rattle.cut_core.proofs.Lists.{taken}
use Rattle.stream_cli.specs.Contents.{Contents, FetchedContent, GivesContent, WasGiven, addresses_in, bytes_in, each_once, with_address}
use Rattle.stream_cli.specs.Kept.{Kept, KeepsFetched, KeepsOne, facts_at, keeps, kept_lines, kept_of, kept_text, lines_there}
use Rattle.stream_cli.specs.Report.{content_line, cut_text}
use Rattle.stream_cli.proofs.Counting.{counts_behind}
use Rattle.stream_cli.proofs.Lacking.{is_there}
use Rattle.stream_cli.proofs.Loads.{SourceSide, run_between}

-- ---- one content more

pub keeps_nothing : (s : SourceSide) → KeepsFetched (run_between s s) [] []
keeps_nothing s = record {
  contents = [];
  fetched = record { each = refl; given = All-nil (WasGiven s.library) };
  kept = refl;
  fetches = refl;
  unfailed = refl;
}

-- the addresses of one line more
pub addresses_more : (lines : List CutLine) (i : ℕ) (line : CutLine) → slice_get lines i ≡ Some line
    → addresses_in (take (i + 1) lines) ≡ with_address (addresses_in (take i lines)) line.address
addresses_more lines i line at =
    ap addresses_in (taken lines i line at)
    ∙ ap each_once (map-append (λ line. line.address) (take i lines) (line ∷ []))
    ∙ fold-append with_address [] (map (λ line. line.address) (take i lines)) (line.address ∷ [])

kept_addresses : (contents : List FetchedContent)
    → map (λ entry. entry.0) (map kept_of contents) ≡ map (λ content. content.address) contents
kept_addresses [] = refl
kept_addresses (c ∷ cs) = ap (λ rest. c.address ∷ rest) (kept_addresses cs)

-- what is kept, and what was asked for
keeps_asked : (s t : SourceSide) (asked : List (List ℕ)) (kept : Kept)
    → KeepsFetched (run_between s t) asked kept → (address : List ℕ)
    → list_any (bytes_eq address) asked ≡ keeps kept address
keeps_asked s t asked kept h address =
    ap (list_any (bytes_eq address)) (sym h.fetched.each)
    ∙ ap (list_any (bytes_eq address)) (sym (kept_addresses h.contents))
    ∙ ap (λ entries. list_any (bytes_eq address) (map (λ entry. entry.0) entries)) (sym h.kept)

pub keeps_known : (s t : SourceSide) (asked : List (List ℕ)) (kept : Kept)
    → KeepsFetched (run_between s t) asked kept → (address : List ℕ)
    → keeps kept address ≡ true
    → KeepsFetched (run_between s t) (with_address asked address) kept
keeps_known s t asked kept h address known =
    subst (λ asked. KeepsFetched (run_between s t) asked kept)
    (sym (ap (λ b. if b then asked else asked ++ address ∷ [])
    (keeps_asked s t asked kept h address ∙ known))) h

one_more : (s t u : SourceSide) (asked : List (List ℕ)) (kept : Kept) → t.library ≡ s.library
    → KeepsFetched (run_between s t) asked kept → (address : List ℕ)
    → (facts : Option ContentFacts) → KeepsOne (run_between t u) address facts
    → KeepsFetched (run_between s u) (asked ++ address ∷ []) (kept ++ (address, facts) ∷ [])
one_more s t u asked kept same h address facts one =
    let c : FetchedContent = record { address = address; bytes = one.bytes } in
    let counted =
    counts_behind (length h.contents) 1 s.fetches t.fetches u.fetches h.fetches one.fetches in
    record {
      contents = h.contents ++ c ∷ [];
      fetched = record {
        each =
            map-append (λ content. content.address) h.contents (c ∷ [])
            ∙ ap (λ asked. asked ++ address ∷ []) h.fetched.each;
        given =
            All-push (WasGiven s.library) h.contents c h.fetched.given
            (subst (λ library. GivesContent library address one.bytes) same one.given);
      };
      kept =
          ap (λ entries. entries ++ (address, facts) ∷ []) h.kept
          ∙ ap (λ facts. map kept_of h.contents ++ (address, facts) ∷ []) one.kept
          ∙ sym (map-append kept_of h.contents (c ∷ []));
      fetches =
          counted
          ∙ ap (λ n. count_after n s.fetches) (sym (length-append h.contents (c ∷ [])));
      unfailed = one.unfailed ∙ h.unfailed;
    }

pub keeps_more : (s t u : SourceSide) (asked : List (List ℕ)) (kept : Kept)
    → t.library ≡ s.library → KeepsFetched (run_between s t) asked kept → (address : List ℕ)
    → (facts : Option ContentFacts) → KeepsOne (run_between t u) address facts
    → keeps kept address ≡ false
    → KeepsFetched (run_between s u) (with_address asked address) (kept ++ (address, facts) ∷ [])
keeps_more s t u asked kept same h address facts one new =
    subst (λ asked. KeepsFetched (run_between s u) asked (kept ++ (address, facts) ∷ []))
    (sym (ap (λ b. if b then asked else asked ++ address ∷ [])
    (keeps_asked s t asked kept h address ∙ new)))
    (one_more s t u asked kept same h address facts one)

-- ---- the text

kept_at : (contents : List FetchedContent) (address : List ℕ)
    → facts_at (map kept_of contents) address ≡ option_map facts_of (bytes_in contents address)
kept_at [] address = refl
kept_at (c ∷ cs) address =
    elim (bytes_eq address c.address) as (λ b.
    option_and_then (λ facts. facts)
    (cond b (Some (option_map facts_of c.bytes)) (lookup (bytes_eq address) (map kept_of cs)))
    ≡ option_map facts_of (if b then c.bytes else bytes_in cs address)) [
      | true ↦ refl
      | false ↦ kept_at cs address
    ]

-- the lines by what is kept of contents of these bytes
module _ (kept : Kept) (contents : Contents)
    (same : (address : List ℕ) → facts_at kept address ≡ option_map facts_of (contents address)) where
  there_is : (lines : List CutLine) → lines_there kept lines ≡ filter (is_there contents) lines
  there_is [] = refl
  there_is (line ∷ lines) =
      elim (contents line.address) as (λ c. contents line.address ≡ c
      → facts_at kept line.address ≡ option_map facts_of c
      → lines_there kept (line ∷ lines) ≡ filter (is_there contents) (line ∷ lines)) [
        | None ↦ λ e f. rw (e, f) (there_is lines)
        | Some bytes ↦ λ e f. rw (e, f) (ap (λ ls. line ∷ ls) (there_is lines))
      ] refl (same line.address)

  lines_are : (lines : List CutLine)
      → kept_lines kept lines
      ≡ map (λ line. content_line line (contents line.address)) (filter (is_there contents) lines)
  lines_are [] = refl
  lines_are (line ∷ lines) =
      elim (contents line.address) as (λ c. contents line.address ≡ c
      → facts_at kept line.address ≡ option_map facts_of c
      → kept_lines kept (line ∷ lines)
      ≡ map (λ line. content_line line (contents line.address))
      (filter (is_there contents) (line ∷ lines))) [
        | None ↦ λ e f. rw (e, f) (lines_are lines)
        | Some bytes ↦ λ e f.
            rw (e, f)
            (ap (λ text. text ∷ kept_lines kept lines) (ap (content_line line) (sym e))
            ∙ ap (λ texts. content_line line (contents line.address) ∷ texts) (lines_are lines))
      ] refl (same line.address)

  text_is : (lines : List CutLine)
      → kept_text kept lines ≡ cut_text contents (filter (is_there contents) lines)
  text_is lines = rw (ap length (there_is lines), lines_are lines) refl

pub kept_is : (contents : List FetchedContent) (kept : Kept) → kept ≡ map kept_of contents
    → (lines : List CutLine)
    → kept_text kept lines
    ≡ cut_text (bytes_in contents) (filter (is_there (bytes_in contents)) lines)
kept_is contents kept e lines =
    text_is kept (bytes_in contents)
    (λ address. ap (λ entries. facts_at entries address) e ∙ kept_at contents address) lines
