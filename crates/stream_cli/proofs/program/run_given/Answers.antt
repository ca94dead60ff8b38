use Rattle.stream_cli.proofs.GivenWords.{of_given, of_given_or}
use Rattle.stream_cli.proofs.program.run_given.Goals as goal

pub returns-in-Ok-clause-words : goal.returns-in-Ok-clause-words
returns-in-Ok-clause-words g c =
    of_given c.args.arguments c.in-Ok.arguments.items _ _ c.in-Ok.ensures.read
    (rw c.deref.ensures.value at c.run_arguments.ensures.words)

pub returns-in-Ok-clause-runs : goal.returns-in-Ok-clause-runs
returns-in-Ok-clause-runs g c =
    of_given_or c.args.arguments c.in-Ok.arguments.items _ _ _ c.in-Ok.ensures.read
    (rw c.deref.ensures.value at c.run_arguments.ensures.runs)
