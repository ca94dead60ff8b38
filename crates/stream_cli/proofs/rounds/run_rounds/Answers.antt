use Rattle.std.specs.Prelude.{Contains}
use Rattle.std.proofs.Common.{◌≡◌, ◌∙◌, inl, inr, refl, subst}
use Rattle.stream_cli.specs.Awaited.{WasAwaited}
use Rattle.stream_cli.specs.Looks.{EndsLook, OfCommand}
use Rattle.stream_cli.specs.Sides.{out_run}
use Rattle.stream_cli.specs.Steps.{LoadsOn}
use Rattle.stream_cli.proofs.Ending.{looks_behind}
use Rattle.stream_cli.proofs.Loads.{loads_idle, loads_nothing, round_then, run_between, side_of, stops_behind}
use Rattle.stream_cli.proofs.rounds.run_rounds.Goals as goal

pub loop-init : goal.loop-init
loop-init g c =
    let side = side_of g.S.LibraryName.library g.S.Source.faults g.S.Source.fetches in
    record {
      loads =
          loads_nothing (WasAwaited c.args.command.now c.args.store)
          (side c.args.source.now) c.args.store;
      library = refl;
      unprinted = refl;
    }

pub loop-preserved : goal.loop-preserved
loop-preserved g c =
    let side = side_of g.S.LibraryName.library g.S.Source.faults g.S.Source.fetches in
    let loads =
    loads_idle (WasAwaited c.args.command.now c.loop.store) (side c.args.source.now)
    (side c.loop.source) (side c.look.new.source) c.args.store c.loop.store
    c.loop.invariant.loads c.in-Awaits.ensures.looks.0.0 in
    let library = c.in-Awaits.ensures.library ∙ c.loop.invariant.library in
    record {
      loads =
          round_then c.args.command.now c.as_slice.result.now (side c.args.source.now)
          (side c.look.new.source) (side c.load_all.new.source) c.args.store c.loop.store
          c.load_all.new.store library
          (c.as_slice.ensures.value ∙ c.in-Awaits.ensures.looks.0.2) loads
          (subst (λ store. LoadsOn (run_between (side c.look.new.source) (side c.load_all.new.source))
          (Contains c.as_slice.result.now) store c.load_all.new.store) c.in-Awaits.ensures.looks.1
          c.in-Ok.ensures.loads);
      library = c.in-Ok.ensures.library ∙ library;
      unprinted = c.in-Awaits.ensures.looks.0.1 ∙ c.loop.invariant.unprinted;
    }

pub returns-in-Err-clause-ends : goal.returns-in-Err-clause-ends
returns-in-Err-clause-ends g c =
    let side = side_of g.S.LibraryName.library g.S.Source.faults g.S.Source.fetches in
    let loads =
    loads_idle (WasAwaited c.args.command.now c.loop.store) (side c.args.source.now)
    (side c.loop.source) (side c.look.new.source) c.args.store c.loop.store
    c.loop.invariant.loads c.in-Awaits.ensures.looks.0.0 in
    inl (
      stops_behind (side c.args.source.now) (side c.look.new.source)
          (side c.load_all.new.source) loads.more c.in-Err.cause loads.fetches loads.unfailed
          c.in-Err.ensures.stops,
      c.in-Awaits.ensures.looks.0.1 ∙ c.loop.invariant.unprinted,
    )

pub returns-in-Ended-clause-ends : goal.returns-in-Ended-clause-ends
returns-in-Ended-clause-ends g c =
    let side = side_of g.S.LibraryName.library g.S.Source.faults g.S.Source.fetches in
    let command = c.args.command.now in
    let new = c.look.new.out in
    let ends =
    subst (λ old. EndsLook (OfCommand command c.loop.store)
    (run_between (side c.loop.source) (side c.look.new.source)) 0
    (out_run g.W.Sink.written g.W.Sink.faults g.W.Sink.puts old new) (new ≡ old) c.in-Ended.cause)
    c.loop.invariant.unprinted c.in-Ended.ensures.looks in
    inr
    (looks_behind command (side c.args.source.now) (side c.loop.source) (side c.look.new.source)
    c.args.store c.loop.store
    (out_run g.W.Sink.written g.W.Sink.faults g.W.Sink.puts c.args.out.now new)
    (new ≡ c.args.out.now) c.in-Ended.cause c.loop.invariant.library c.loop.invariant.loads ends)
