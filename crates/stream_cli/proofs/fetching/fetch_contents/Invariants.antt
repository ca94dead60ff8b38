use Rattle.std.proofs.Common.{◌≡◌, take}
use Rattle.stream_cli.specs.Contents.{addresses_in}
use Rattle.stream_cli.specs.Kept.{KeepsFetched}
use Rattle.stream_cli.specs.Sides.{source_run}
use Rattle.stream_cli.proofs.fetching.fetch_contents.Given as goal

-- the contents of the lines so far were fetched, and the library is the same
abbrev pub invariant-loop-line : goal.invariant-loop-line
invariant-loop-line g l = record {
  kept : KeepsFetched (source_run g.S.LibraryName.library g.S.Source.faults g.S.Source.fetches
      l.initial.source l.source) (addresses_in (take l.line-index l.lines)) l.contents;
  library : g.S.LibraryName.library l.source ≡ g.S.LibraryName.library l.initial.source;
}
