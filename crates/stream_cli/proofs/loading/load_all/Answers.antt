use Rattle.std.proofs.Common.{◌≡◌, ◌∙◌, Contains, refl, subst, sym}
use Rattle.std.proofs.lemmas.List.Elements.{Contains-get_or}
use Rattle.stream_cli.proofs.Loads.{loads_nothing, loads_then, loads_weaker, run_between, side_of, stops_behind}
use Rattle.stream_cli.proofs.loading.load_all.Goals as goal

pub loop-key-init : goal.loop-key-init
loop-key-init g c =
    let side = side_of g.S.LibraryName.library g.S.Source.faults g.S.Source.fetches in
    record {
      loads = loads_nothing (Contains c.args.keys.now) (side c.args.source.now) c.args.store.now;
      library = refl;
    }

pub loop-key-preserved : goal.loop-key-preserved
loop-key-preserved g c =
    let side = side_of g.S.LibraryName.library g.S.Source.faults g.S.Source.fetches in
    let keys = c.args.keys.now in
    let key = c.key-item.result in
    let among : Contains keys key =
    subst (Contains keys) (sym c.key-item.is)
    (Contains-get_or keys c.loop-key.key-index key c.loop-key-test.true) in
    let more =
    loads_weaker (λ k. k ≡ key) (Contains keys)
    (run_between (side c.loop-key.source) (side c.load.new.source)) c.loop-key.store
    c.load.new.store (λ k e. subst (Contains keys) (sym e) among) c.in-Ok.ensures.loads in
    record {
      loads =
          loads_then (Contains keys) (side c.args.source.now) (side c.loop-key.source)
          (side c.load.new.source) c.args.store.now c.loop-key.store c.load.new.store
          c.loop-key.invariant.library c.loop-key.invariant.loads more;
      library = c.in-Ok.ensures.library ∙ c.loop-key.invariant.library;
    }

pub returns-in-Err-clause-stops : goal.returns-in-Err-clause-stops
returns-in-Err-clause-stops g c =
    let side = side_of g.S.LibraryName.library g.S.Source.faults g.S.Source.fetches in
    let loads = c.loop-key.invariant.loads in
    stops_behind (side c.args.source.now) (side c.loop-key.source) (side c.load.new.source)
    loads.more c.in-Err.cause loads.fetches loads.unfailed c.in-Err.ensures.stops
