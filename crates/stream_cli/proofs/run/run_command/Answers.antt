use Rattle.stream_cli.specs.Loading.{Opens, root_of}
use Rattle.stream_cli.proofs.Ending.{rounds_end}
use Rattle.stream_cli.proofs.Loads.{loads_root, opens_one, run_between, side_of}
use Rattle.stream_cli.proofs.run.run_command.Goals as goal

pub returns-in-Ok-clause-ends : goal.returns-in-Ok-clause-ends
returns-in-Ok-clause-ends g c =
    let side = side_of g.S.LibraryName.library g.S.Source.faults g.S.Source.fetches in
    let command = c.args.command.now in
    let opens : Opens (root_of command)
    (run_between (side c.args.source.now) (side c.open_store.new.source)) c.in-Ok.store =
    rw c.root_of.ensures at c.in-Ok.ensures.opened in
    rounds_end command (side c.args.source.now) (side c.open_store.new.source)
    (side c.run_rounds.new.source) c.in-Ok.store _ _ c.run_rounds.result
    c.in-Ok.ensures.library
    (loads_root command (run_between (side c.args.source.now) (side c.open_store.new.source))
    c.in-Ok.store opens)
    (opens_one (root_of command)
    (run_between (side c.args.source.now) (side c.open_store.new.source)) c.in-Ok.store opens)
    opens.unfailed
    c.run_rounds.ensures.ends
