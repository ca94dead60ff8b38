use Rattle.std.proofs.Common.{[], ◌∷◌, ◌++◌, ◌∙◌, ap, arith, refl}
use Rattle.std.specs.List.{list_any}
use Rattle.tile_cache.specs.Residents.{same_text}
use Rattle.engine_core.specs.Mirrors.{state_of}
use Rattle.engine_core.proofs.Endings.{absent_content_lives, not_among, some_flies, to_load}
use Rattle.engine_core.proofs.parts.Parts.add_absent_content.Goals as goal

pub put_new-requires-clause-room : goal.put_new-requires-clause-room
put_new-requires-clause-room c =
    let some = some_flies c.args.self.now c.args.pass c.args.key c.requires.lives c.requires.flies in
    let room = c.requires.lives.room.absent in
    omega arith

pub put_new-requires-clause-new : goal.put_new-requires-clause-new
put_new-requires-clause-new c =
    let p = c.args.self.now in
    let key = c.args.key in
    ap (λ k. list_any (same_text k.address) p.absent.keys) c.end_flight-flown.ensures.key
    ∙ not_among p key.address c.requires.lives
    (c.what_is_to_load_is_missing.ensures.absent (state_of p) key
    (to_load p c.args.pass key c.what_flies_is_to_load.ensures.to_load c.requires.lives
    c.requires.flies) c.requires.content)

pub returns-clause-lives : goal.returns-clause-lives
returns-clause-lives c =
    let p = c.args.self.now in
    absent_content_lives p _ c.args.pass c.args.key c.args.why c.requires.lives c.requires.flies
    c.requires.gone c.requires.content refl c.push_reserved.ensures.items
    c.push_reserved.ensures.room c.end_flight-flown.ensures.flying
    (c.put_new.ensures.keys
    ∙ ap (λ k. p.absent.keys ++ k.address ∷ []) c.end_flight-flown.ensures.key)
    c.put_new.ensures.room
