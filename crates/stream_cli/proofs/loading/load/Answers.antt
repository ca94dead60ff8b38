use Rattle.std.proofs.Common.{◌≡◌, ◌∙◌, Err, subst, sym}
use Rattle.source_port.specs.Fetches.{Answers}
use Rattle.source_port.specs.Library.{HasBytes}
use Rattle.doc_store.specs.declared.limits.TheConstants.{DOCUMENT_LIMIT}
use Rattle.stream_cli.proofs.Loads.{asks_absent, asks_weaker, loads_nothing, loads_one, on_ok, side_of}
use Rattle.stream_cli.proofs.Refusals.{load_absent, load_stops, memory_stops}
use Rattle.stream_cli.proofs.loading.load.Goals as goal

pub returns-then-not-is_document_kind-clause-loads :
    goal.returns-then-not-is_document_kind-clause-loads
returns-then-not-is_document_kind-clause-loads g c =
    let side = side_of g.S.LibraryName.library g.S.Source.faults g.S.Source.fetches in
    loads_nothing (λ k. k ≡ c.args.key.now) (side c.args.source.now) c.args.store.now

pub returns-in-Ok-fetch-clause-loads : goal.returns-in-Ok-fetch-clause-loads
returns-in-Ok-fetch-clause-loads g c =
    let side = side_of g.S.LibraryName.library g.S.Source.faults g.S.Source.fetches in
    let library = g.S.LibraryName.library c.args.source.now in
    let key = c.in-Ok.key in
    let there : HasBytes library key.address c.fetch.new.into.items =
    subst (λ a. HasBytes library a c.fetch.new.into.items) c.as_str.ensures.value
    c.in-Ok-fetch.ensures.answer.0 in
    on_ok c.keep.result
    (λ asks. loads_one (λ k. k ≡ c.args.key.now) (side c.args.source.now)
    (side c.fetch.new.self) c.args.store.now c.reserve.new.self c.keep.new.store
    c.reserve.ensures.loaded c.reserve.ensures.gone c.in-Ok-fetch.ensures.faults
    c.in-Ok-fetch.ensures.fetches
    (asks_weaker (λ k. k ≡ key) (λ k. k ≡ c.args.key.now) library c.reserve.new.self
    c.keep.new.store 1 (λ k e. e ∙ c.in-Ok.ensures.value)
    (asks library (record { there = there; within = c.in-Ok-fetch.ensures.answer.1 }))))
    c.keep.ensures.asks

pub returns-in-None-clause-loads : goal.returns-in-None-clause-loads
returns-in-None-clause-loads g c =
    let side = side_of g.S.LibraryName.library g.S.Source.faults g.S.Source.fetches in
    let library = g.S.LibraryName.library c.args.source.now in
    let key = c.in-Ok.key in
    let store = c.reserve.new.self in
    let absent =
    load_absent c.in-Err.error (side c.args.source.now) (side c.fetch.new.self) store key
    c.fetch.new.into.items c.faults.result
    (subst (λ a. Answers (Err c.in-Err.error) library a DOCUMENT_LIMIT c.fetch.new.into.items)
    c.as_str.ensures.value c.in-Err.ensures.answer)
    c.in-Err.ensures.faults c.in-Err.ensures.fetches
    (sym c.of_load.ensures ∙ c.in-None.is) in
    loads_one (λ k. k ≡ c.args.key.now) (side c.args.source.now) (side c.fetch.new.self)
    c.args.store.now store c.mark_absent.new.self c.reserve.ensures.loaded
    c.reserve.ensures.gone absent.faults absent.fetches
    (asks_absent library (λ k. k ≡ c.args.key.now) store c.mark_absent.new.self key
    c.in-Ok.ensures.value c.mark_absent.ensures.loaded c.mark_absent.ensures.gone absent.why)

pub returns-in-Ok-fetch-clause-stops : goal.returns-in-Ok-fetch-clause-stops
returns-in-Ok-fetch-clause-stops g c =
    let side = side_of g.S.LibraryName.library g.S.Source.faults g.S.Source.fetches in
    memory_stops c.keep.result (side c.args.source.now) (side c.fetch.new.self)
    c.keep.ensures.memory c.in-Ok-fetch.ensures.faults

pub returns-in-Some-clause-stops : goal.returns-in-Some-clause-stops
returns-in-Some-clause-stops g c =
    let side = side_of g.S.LibraryName.library g.S.Source.faults g.S.Source.fetches in
    load_stops c.in-Err.error (side c.args.source.now) (side c.fetch.new.self) c.faults.result
    c.in-Some.cause c.in-Err.ensures.faults c.in-Err.ensures.fetches c.faults.ensures
    (sym c.of_load.ensures ∙ c.in-Some.is)
