use Rattle.std.proofs.Common.{refl}
use Rattle.tile_arena.specs.Standing.{standing_of}
use Rattle.engine_core.proofs.CutLines.{cut_is, ends_too_large, ends_within}
use Rattle.engine_core.proofs.parts.Parts.cut_lines.Goals as goal

pub returns-clause-lines : goal.returns-clause-lines
returns-clause-lines c =
    cut_is c.args.self.now c.args.view.now c.cut.result (standing_of c.args.self.now.arena)
    c.requires.lives refl c.cut.ensures.lines

pub returns-clause-within : goal.returns-clause-within
returns-clause-within c =
    ends_within c.args.self.now c.args.view.now c.cut.result (standing_of c.args.self.now.arena) _
    c.requires.lives refl c.cut.ensures.walk.ends

pub returns-clause-refused : goal.returns-clause-refused
returns-clause-refused c =
    ends_too_large c.args.self.now c.args.view.now c.cut.result (standing_of c.args.self.now.arena) _
    c.requires.lives refl c.cut.ensures.walk.ends
