use Rattle.std.proofs.Common.{◌≡◌, Err, rules, subst, sym}
use Rattle.source_port.specs.Fetches.{Answers}
use Rattle.source_port.specs.Library.{HasBytes}
use Rattle.doc_store.specs.declared.limits.TheConstants.{DOCUMENT_LIMIT}
use Rattle.stream_cli.specs.Steps.{IsOpenCause}
use Rattle.stream_cli.proofs.Loads.{run_between, side_of}
use Rattle.stream_cli.proofs.Refusals.{read_opens, read_stops, root_stops}
use Rattle.stream_cli.proofs.loading.open_store.Goals as goal

pub returns-in-Ok-clause-opened : goal.returns-in-Ok-clause-opened
returns-in-Ok-clause-opened g c =
    let side = side_of g.S.LibraryName.library g.S.Source.faults g.S.Source.fetches in
    let library = g.S.LibraryName.library c.args.source.now in
    let bytes = c.fetch.new.into.items in
    let at : c.as_str.result.now ≡ c.args.root.now = search rules in
    let there : HasBytes library c.args.root.now bytes =
    subst (λ a. HasBytes library a bytes) at c.in-Ok.ensures.answer.0 in
    read_opens c.read_root.result c.args.root.now bytes (side c.args.source.now)
    (side c.fetch.new.self) (record { there = there; within = c.in-Ok.ensures.answer.1 })
    c.in-Ok.ensures.fetches c.in-Ok.ensures.faults c.read_root.ensures.opened

pub returns-in-Ok-clause-refused : goal.returns-in-Ok-clause-refused
returns-in-Ok-clause-refused g c =
    let side = side_of g.S.LibraryName.library g.S.Source.faults g.S.Source.fetches in
    let library = g.S.LibraryName.library c.args.source.now in
    let bytes = c.fetch.new.into.items in
    let at : c.as_str.result.now ≡ c.args.root.now = search rules in
    let there : HasBytes library c.args.root.now bytes =
    subst (λ a. HasBytes library a bytes) at c.in-Ok.ensures.answer.0 in
    read_stops c.read_root.result c.args.root.now bytes (side c.args.source.now)
    (side c.fetch.new.self) (record { there = there; within = c.in-Ok.ensures.answer.1 })
    c.in-Ok.ensures.fetches c.in-Ok.ensures.faults c.read_root.ensures.refused

pub returns-in-Err-clause-refused : goal.returns-in-Err-clause-refused
returns-in-Err-clause-refused g c =
    let side = side_of g.S.LibraryName.library g.S.Source.faults g.S.Source.fetches in
    let library = g.S.LibraryName.library c.args.source.now in
    let bytes = c.fetch.new.into.items in
    let at : c.as_str.result.now ≡ c.args.root.now = search rules in
    let run = run_between (side c.args.source.now) (side c.fetch.new.self) in
    subst (IsOpenCause c.args.root.now run) (sym c.of_root.ensures)
    (root_stops c.in-Err.error (side c.args.source.now) (side c.fetch.new.self) c.args.root.now
    bytes c.faults.result
    (subst (λ a. Answers (Err c.in-Err.error) library a DOCUMENT_LIMIT bytes) at
    c.in-Err.ensures.answer)
    c.in-Err.ensures.faults c.in-Err.ensures.fetches c.faults.ensures)
