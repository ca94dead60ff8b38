use Rattle.std.proofs.Common.{◌≡◌, refl, subst, sym}
use Rattle.stream_cli.specs.Looks.{Looks, OfCommand}
use Rattle.stream_cli.specs.Sides.{out_run, source_run}
use Rattle.stream_cli.proofs.commands.look.Goals as goal

pub returns-in-Cut-clause-looks : goal.returns-in-Cut-clause-looks
returns-in-Cut-clause-looks g c =
    let new = c.look.new.out in
    let old = c.args.out.now in
    subst (λ command. Looks (OfCommand command c.args.store) c.args.store
    (source_run g.S.LibraryName.library g.S.Source.faults g.S.Source.fetches c.args.source.now
    c.look.new.source)
    (out_run g.W.Sink.written g.W.Sink.faults g.W.Sink.puts old new) (new ≡ old) c.look.result)
    (sym c.in-Cut.is) c.look.ensures.looks

pub returns-in-Tiles-clause-looks : goal.returns-in-Tiles-clause-looks
returns-in-Tiles-clause-looks g c =
    let new = c.look-in-Tiles.new.out in
    let old = c.args.out.now in
    let source =
    source_run g.S.LibraryName.library g.S.Source.faults g.S.Source.fetches c.args.source.now
    c.args.source.now in
    subst (λ command. Looks (OfCommand command c.args.store) c.args.store source
    (out_run g.W.Sink.written g.W.Sink.faults g.W.Sink.puts old new) (new ≡ old)
    c.look-in-Tiles.result)
    (sym c.in-Tiles.is)
    (c.look-in-Tiles.ensures source (record { fetches = refl; unfailed = refl }))

pub returns-in-Meta-clause-looks : goal.returns-in-Meta-clause-looks
returns-in-Meta-clause-looks g c =
    let new = c.look-in-Meta.new.out in
    let old = c.args.out.now in
    let source =
    source_run g.S.LibraryName.library g.S.Source.faults g.S.Source.fetches c.args.source.now
    c.args.source.now in
    subst (λ command. Looks (OfCommand command c.args.store) c.args.store source
    (out_run g.W.Sink.written g.W.Sink.faults g.W.Sink.puts old new) (new ≡ old)
    c.look-in-Meta.result)
    (sym c.in-Meta.is)
    (c.look-in-Meta.ensures source (record { fetches = refl; unfailed = refl }))
