use Rattle.std.proofs.Common.{◌≡◌, ◌∙◌, ◌+◌, ◌∷◌, ◌++◌, [], Some, ap, length, rules, subst, sym, take}
use Rattle.std.proofs.lemmas.Option.{slice_get-get_or}
use Rattle.std.specs.List.{slice_get}
use Rattle.stream_cli.specs.Contents.{addresses_in}
use Rattle.stream_cli.specs.Kept.{KeepsFetched}
use Rattle.stream_cli.proofs.Keeping.{addresses_more, keeps_known, keeps_more}
use Rattle.stream_cli.proofs.Loads.{run_between, side_of, stops_behind}
use Rattle.stream_cli.proofs.fetching.fetch_contents.Goals as goal

pub loop-line-preserved-then-keeps : goal.loop-line-preserved-then-keeps
loop-line-preserved-then-keeps g c =
    let side = side_of g.S.LibraryName.library g.S.Source.faults g.S.Source.fetches in
    let lines = c.args.lines.now in
    let i = c.loop-line.line-index in
    let line = c.line-item.result in
    let kept = c.loop-line.contents in
    let run = run_between (side c.args.source.now) (side c.loop-line.source) in
    let at : slice_get lines i ≡ Some line =
    slice_get-get_or lines i line c.loop-line-test.true ∙ ap Some (sym c.line-item.is) in
    record {
      kept =
          subst (λ asked. KeepsFetched run asked kept) (sym (addresses_more lines i line at))
          (keeps_known (side c.args.source.now) (side c.loop-line.source)
          (addresses_in (take i lines)) kept c.loop-line.invariant.kept line.address
          (sym c.keeps.ensures ∙ c.if-keeps.true));
      library = c.loop-line.invariant.library;
    }

pub returns-in-Err-clause-stops : goal.returns-in-Err-clause-stops
returns-in-Err-clause-stops g c =
    let side = side_of g.S.LibraryName.library g.S.Source.faults g.S.Source.fetches in
    let kept = c.loop-line.invariant.kept in
    stops_behind (side c.args.source.now) (side c.loop-line.source)
    (side c.fetch_content.new.source) (length kept.contents) c.in-Err.cause kept.fetches
    kept.unfailed c.in-Err.ensures.stops

pub loop-line-preserved : goal.loop-line-preserved
loop-line-preserved g c =
    let side = side_of g.S.LibraryName.library g.S.Source.faults g.S.Source.fetches in
    let lines = c.args.lines.now in
    let i = c.loop-line.line-index in
    let line = c.line-item.result in
    let old = c.loop-line.contents in
    let facts = c.in-Ok.facts in
    let run = run_between (side c.args.source.now) (side c.fetch_content.new.source) in
    let at : slice_get lines i ≡ Some line =
    slice_get-get_or lines i line c.loop-line-test.true ∙ ap Some (sym c.line-item.is) in
    let added : c.add.new.self ≡ old ++ (c.in-Ok-copy.address, facts) ∷ [] = search rules in
    let here : c.add.new.self ≡ old ++ (line.address, facts) ∷ [] =
    added ∙ ap (λ address. old ++ (address, facts) ∷ []) c.in-Ok-copy.ensures.value in
    record {
      kept =
          subst (λ kept. KeepsFetched run (addresses_in (take (i + 1) lines)) kept) (sym here)
          (subst (λ asked. KeepsFetched run asked (old ++ (line.address, facts) ∷ []))
          (sym (addresses_more lines i line at))
          (keeps_more (side c.args.source.now) (side c.loop-line.source)
          (side c.fetch_content.new.source) (addresses_in (take i lines)) old
          c.loop-line.invariant.library c.loop-line.invariant.kept line.address facts
          c.in-Ok.ensures.kept (sym c.keeps.ensures ∙ c.if-keeps.false)));
      library = c.in-Ok.ensures.library ∙ c.loop-line.invariant.library;
    }
