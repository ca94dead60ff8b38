use Rattle.std.proofs.Common.{◌<◌, ◌^◌, length, subst, ◌∙◌}
use Rattle.engine_core.proofs.Looked.{looked_lives, may_be_pinned, shown_are_resident}
use Rattle.engine_core.proofs.parts.Parts.add_looked.Goals as goal

pub pin_all-requires-clause-resident : goal.pin_all-requires-clause-resident
pin_all-requires-clause-resident c =
    shown_are_resident c.args.self.now c.args.noted c.as_slice.result.now c.requires.lives
    (c.as_slice.ensures ∙ c.requires.addresses)

pub pin_all-requires-clause-limit : goal.pin_all-requires-clause-limit
pin_all-requires-clause-limit c =
    may_be_pinned c.args.self.now c.as_slice.result.now c.requires.lives c.requires.few
    c.as_slice.type_inv.0

pub returns-clause-lives : goal.returns-clause-lives
returns-clause-lives c =
    looked_lives c.args.self.now _ _ _ c.pin_all.new.cache _ _ c.args.pass c.args.viewer
    c.args.noted c.args.settled c.args.addresses c.as_slice.result.now c.as_slice-2.result.now
    c.requires.lives c.requires.room c.requires.open c.requires.few c.requires.fits
    c.requires.ask c.requires.settled c.requires.views c.requires.addresses
    (subst (λ texts. length texts < 2 ^ 64) c.as_slice.ensures c.as_slice.type_inv.0)
    c.as_slice.ensures c.pin_all.ensures.residents c.pin_all.ensures.pins c.pin_all.ensures.budget
    c.as_slice-2.ensures c.touch_all.ensures.residents c.touch_all.ensures.pins c.touch_all.ensures.budget
    c.push_reserved.ensures.items c.clear.ensures.items c.clear.ensures.room
    c.push_reserved-2.ensures.items c.push_reserved-2.ensures.room
