use Rattle.std.proofs.Common.{◌≡◌, refl}
use Rattle.stream_cli.specs.Contents.{addresses_in}
use Rattle.stream_cli.specs.Kept.{KeepsFetched, kept_text}
use Rattle.stream_cli.specs.Printing.{PutsLines}
use Rattle.stream_cli.specs.Sides.{out_run, source_run}
use Rattle.stream_cli.proofs.Puts.{print_cause}
use Rattle.stream_cli.proofs.Showing.{cut_shown}
use Rattle.stream_cli.proofs.commands.cut.print_ideal.Goals as goal

pub returns-in-Ok-clause-ends : goal.returns-in-Ok-clause-ends
returns-in-Ok-clause-ends g c = λ view root e seen.
    let lines = c.args.lines.now in
    let kept = c.in-Ok.contents in
    let new = c.print_cut.new.out in
    let old = c.args.out.now in
    let out = out_run g.W.Sink.written g.W.Sink.faults g.W.Sink.puts old new in
    let source =
    source_run g.S.LibraryName.library g.S.Source.faults g.S.Source.fetches c.args.source.now
    c.fetch_contents.new.source in
    let fetched : KeepsFetched source (addresses_in lines) kept =
    rw c.as_slice.ensures at c.in-Ok.ensures.kept in
    let puts : PutsLines c.print_cut.result out (kept_text kept lines) =
    rw c.as_slice-in-Ok.ensures at c.print_cut.ensures in
    cut_shown view root source kept lines e seen fetched out
    (new ≡ old) c.cause_of.result
    (print_cause c.print_cut.result _ c.cause_of.result out (kept_text kept lines) refl
    c.cause_of.ensures puts)
