use Rattle.std.proofs.Common.{◌≡◌, Contains}
use Rattle.stream_cli.specs.Sides.{source_run}
use Rattle.stream_cli.specs.Steps.{LoadsOn}
use Rattle.stream_cli.proofs.loading.load_all.Given as goal

-- documents of these keys were loaded so far, and the library is the same
abbrev pub invariant-loop-key : goal.invariant-loop-key
invariant-loop-key g l = record {
  loads : LoadsOn (source_run g.S.LibraryName.library g.S.Source.faults g.S.Source.fetches
      l.initial.source l.source) (Contains l.keys) l.initial.store l.store;
  library : g.S.LibraryName.library l.source ≡ g.S.LibraryName.library l.initial.source;
}
