use Rattle.std.proofs.Common.{◌∙◌, Err, None, Some, ap, refl, subst, sym}
use Rattle.source_port.specs.Fetches.{Answers}
use Rattle.source_port.specs.Library.{HasBytes}
use Rattle.content_digest.specs.Facts.{facts_of}
use Rattle.content_digest.specs.declared.limits.TheConstants.{CONTENT_LIMIT}
use Rattle.stream_cli.proofs.Loads.{side_of}
use Rattle.stream_cli.proofs.Refusals.{content_absent, load_stops}
use Rattle.stream_cli.proofs.fetching.fetch_content.Goals as goal

pub returns-in-Ok-clause-kept : goal.returns-in-Ok-clause-kept
returns-in-Ok-clause-kept g c =
    let library = g.S.LibraryName.library c.args.source.now in
    let bytes = c.fetch.new.into.items in
    let there : HasBytes library c.args.address.now bytes =
    subst (λ a. HasBytes library a bytes) c.as_str.ensures.value c.in-Ok.ensures.answer.0 in
    record {
      bytes = Some bytes;
      given = (there, c.in-Ok.ensures.answer.1);
      kept = ap Some (c.of.ensures ∙ ap facts_of c.as_slice.ensures.value);
      fetches = c.in-Ok.ensures.fetches;
      unfailed = c.in-Ok.ensures.faults;
    }

pub returns-in-None-clause-kept : goal.returns-in-None-clause-kept
returns-in-None-clause-kept g c =
    let side = side_of g.S.LibraryName.library g.S.Source.faults g.S.Source.fetches in
    let library = g.S.LibraryName.library c.args.source.now in
    let absent =
    content_absent c.in-Err.error (side c.args.source.now) (side c.fetch.new.self)
    c.args.address.now c.fetch.new.into.items c.faults.result
    (subst (λ a. Answers (Err c.in-Err.error) library a CONTENT_LIMIT c.fetch.new.into.items)
    c.as_str.ensures.value c.in-Err.ensures.answer)
    c.in-Err.ensures.faults c.in-Err.ensures.fetches
    (sym c.of_load.ensures ∙ c.in-None.is) in
    record {
      bytes = None;
      given = absent.given;
      kept = refl;
      fetches = absent.fetches;
      unfailed = absent.faults;
    }

pub returns-clause-stops : goal.returns-clause-stops
returns-clause-stops g c =
    let side = side_of g.S.LibraryName.library g.S.Source.faults g.S.Source.fetches in
    load_stops c.in-Err.error (side c.args.source.now) (side c.fetch.new.self) c.faults.result
    c.in-Some.cause c.in-Err.ensures.faults c.in-Err.ensures.fetches c.faults.ensures
    (sym c.of_load.ensures ∙ c.in-Some.is)
