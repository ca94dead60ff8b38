use Rattle.std.proofs.Common.{◌≤◌, sym, subst}
use Rattle.tile_cache.specs.Pins.{times}
use Rattle.engine_core.proofs.Returned.{enough_pins, is_there, returned_lives}
use Rattle.engine_core.proofs.parts.Parts.add_returned.Goals as goal

pub take_frame-frame-requires : goal.take_frame-frame-requires
take_frame-frame-requires c = is_there c.args.self.now c.args.id c.requires.lives c.requires.held

pub unpin_all-requires : goal.unpin_all-requires
unpin_all-requires c a =
    subst (λ texts. times a texts ≤ times a c.args.self.now.cache.pins) (sym c.as_slice.ensures)
    (enough_pins c.args.self.now c.args.id c.take_frame-frame.result c.requires.lives
    c.take_frame-frame.ensures.frame a)

pub returns-clause-lives : goal.returns-clause-lives
returns-clause-lives c =
    returned_lives c.args.self.now _ _ _ _ c.take_frame-frame.result c.as_slice.result.now c.args.id
    c.args.pass _ c.requires.lives c.requires.held c.take_frame-frame.ensures.frame
    c.take_frame-frame.ensures.frames c.as_slice.ensures
    c.unpin_all.ensures.residents c.unpin_all.ensures.pins c.unpin_all.ensures.budget c.stays_filled-self.ensures
    c.clear.ensures.items c.clear.ensures.room c.push_reserved.ensures.items c.push_reserved.ensures.room
