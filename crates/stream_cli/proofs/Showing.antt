-- Looks that print: a cut, from what is kept of its contents, a listing, and metadata.
use Rattle.std.proofs.Common.{◌≡◌, ◌∙◌, ◌+◌, ap, arith, filter, length, List, [], None, Option, refl, subst, sym}
use Rattle.error_test.specs.Views.{ViewParts}
use Rattle.doc_store.specs.Docs.{Docs}
use Rattle.expanded_tree.specs.Tree.{Tree}
use Rattle.plain_tree.specs.Preorder.{nodes_of}
use Rattle.tile_metadata.specs.Metadata.{first_cause, metadata}
use Rattle.cut_core.specs.Cut.{ideal}
use Rattle.cut_core.specs.declared.line.CutLine.{CutLine}
use Rattle.stream_cli.specs.Awaited.{nothing_absent}
use Rattle.stream_cli.specs.Contents.{AreFetched, addresses_in, bytes_in, lacking}
use Rattle.stream_cli.specs.Kept.{Kept, KeepsFetched, kept_text}
use Rattle.stream_cli.specs.Listing.{listing}
use Rattle.stream_cli.specs.Loading.{Fetches}
use Rattle.stream_cli.specs.Looks.{EndsLook, IsIdle, OfCut, OfMeta, OfTiles}
use Rattle.stream_cli.specs.Printing.{IsPrintCause}
use Rattle.stream_cli.specs.Report.{cut_text}
use Rattle.stream_cli.specs.Runs.{IsListable, IsSeen}
use Rattle.stream_cli.specs.Sides.{OutRun, SourceRun}
use Rattle.stream_cli.specs.declared.cause.Cause.{Cause}
use Rattle.stream_cli.proofs.Ending.{prints_shown, shows_nothing}
use Rattle.stream_cli.proofs.Keeping.{kept_is}
use Rattle.stream_cli.proofs.Lacking.{is_there, left_out}

pub cut_shown : (view : ViewParts) (root : Option Tree) (source : SourceRun) (kept : Kept)
    (lines : List CutLine) → lines ≡ ideal view nothing_absent root → IsSeen view root
    → KeepsFetched source (addresses_in lines) kept → (out : OutRun) (U : Type 0)
    (cause : Cause) → IsPrintCause out (kept_text kept lines) cause
    → EndsLook (OfCut view root) source 0 out U cause
cut_shown view root source kept lines e seen h out U cause printed =
    let bytes = bytes_in h.contents in
    let text : kept_text kept lines ≡ cut_text bytes (ideal view (lacking bytes) root) =
    kept_is h.contents kept h.kept lines
    ∙ ap (λ ls. cut_text bytes (filter (is_there bytes) ls)) e
    ∙ ap (cut_text bytes) (sym (left_out view bytes root seen.loaded)) in
    let none_before : length h.contents ≡ 0 + length h.contents = omega arith in
    prints_shown (OfCut view root) source 0 h.contents out U cause
    (record {
      ready = seen;
      schemas = refl;
      fetched = subst (λ ls. AreFetched source.library (addresses_in ls) h.contents) e h.fetched;
      fetches = subst (Fetches source) none_before h.fetches;
      unfailed = h.unfailed;
    })
    (subst (λ ls. IsPrintCause out ls cause) text printed)

pub tiles_shown : (root : Option Tree) (source : SourceRun) → IsIdle source 0
    → IsListable root → (out : OutRun) (U : Type 0) (cause : Cause)
    → IsPrintCause out (listing root) cause → EndsLook (OfTiles root) source 0 out U cause
tiles_shown root source idle ready out U cause printed =
    prints_shown (OfTiles root) source 0 [] out U cause
    (shows_nothing (OfTiles root) source ready refl refl idle) printed

pub meta_shown : (docs : Docs) (root : Option Tree) (source : SourceRun) → IsIdle source 0
    → IsListable root → first_cause docs (nodes_of root) ≡ None → (out : OutRun) (U : Type 0)
    (cause : Cause) → IsPrintCause out (metadata docs root) cause
    → EndsLook (OfMeta docs root) source 0 out U cause
meta_shown docs root source idle ready schemas out U cause printed =
    prints_shown (OfMeta docs root) source 0 [] out U cause
    (shows_nothing (OfMeta docs root) source ready schemas refl idle) printed
