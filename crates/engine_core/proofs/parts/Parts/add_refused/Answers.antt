use Rattle.engine_core.proofs.Looked.{refused_lives}
use Rattle.engine_core.proofs.parts.Parts.add_refused.Goals as goal

pub returns-clause-lives : goal.returns-clause-lives
returns-clause-lives c =
    refused_lives c.args.self.now _ _ _ c.args.pass c.args.viewer c.args.noted c.args.settled c.args.why
    c.requires.lives c.requires.room c.requires.open c.requires.may c.requires.ask c.requires.views
    c.clear.ensures.items c.clear.ensures.room c.push_reserved.ensures.items c.push_reserved.ensures.room
