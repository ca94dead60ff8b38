use Rattle.std.proofs.Common.{◌≡◌}
use Rattle.stream_cli.specs.Awaited.{WasAwaited}
use Rattle.stream_cli.specs.Sides.{source_run}
use Rattle.stream_cli.specs.Steps.{LoadsOn}
use Rattle.stream_cli.proofs.rounds.run_rounds.Given as goal

-- what was awaited was loaded so far; the library and the output are the same
abbrev pub invariant-loop : goal.invariant-loop
invariant-loop g l = record {
  loads : LoadsOn (source_run g.S.LibraryName.library g.S.Source.faults g.S.Source.fetches
      l.initial.source l.source) (WasAwaited l.command l.store) l.initial.store l.store;
  library : g.S.LibraryName.library l.source ≡ g.S.LibraryName.library l.initial.source;
  unprinted : l.out ≡ l.initial.out;
}
