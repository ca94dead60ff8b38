use Rattle.engine_core.proofs.Closings.{closed_lives}
use Rattle.engine_core.proofs.parts.Parts.add_closed.Goals as goal

pub returns-clause-lives : goal.returns-clause-lives
returns-clause-lives c =
    closed_lives c.args.self.now _ c.args.pass c.requires.lives c.requires.open
    c.push_reserved.ensures.items c.push_reserved.ensures.room
