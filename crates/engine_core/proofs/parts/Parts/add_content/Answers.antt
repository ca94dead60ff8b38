use Rattle.std.proofs.Common.{length, ◌∙◌, ap}
use Rattle.engine_core.specs.Mirrors.{state_of}
use Rattle.engine_core.proofs.Endings.{to_load}
use Rattle.engine_core.proofs.Arrivals.{arrived_goes, not_resident, passes_budget, squeezed_goes}
use Rattle.engine_core.proofs.parts.Parts.add_content.Goals as goal

pub admit-requires : goal.admit-requires
admit-requires c =
    let p = c.args.self.now in
    let key = c.args.key.now in
    not_resident p key.address c.requires.lives
    (c.what_is_to_load_is_missing.ensures.resident (state_of p) key
    (to_load p c.args.pass key c.what_flies_is_to_load.ensures.to_load c.requires.lives
    c.requires.flies) c.requires.content)

pub returns-in-Ok-clause-lives : goal.returns-in-Ok-clause-lives
returns-in-Ok-clause-lives c =
    (arrived_goes c.args.self.now _ _ _ c.args.key.now c.args.address c.args.pass _
    c.args.content.now c.in_ok-shared.shared c.deref.result.now _ _
    c.residents_are_there_once.ensures.present c.requires.lives c.requires.knows c.requires.flies
    c.requires.content c.requires.address (c.len-length.ensures.value ∙ ap length c.bytes.ensures) c.digest-digest.ensures
    c.in_ok-shared.ensures.value c.deref.ensures.value c.in-Ok.ensures.fits
    c.in-Ok.ensures.evicted c.in-Ok.ensures.residents c.admit.ensures.pins c.admit.ensures.budget
    c.push_reserved.ensures.items c.push_reserved.ensures.room c.end_flight.ensures.flying).0

pub returns-in-Ok-clause-journal : goal.returns-in-Ok-clause-journal
returns-in-Ok-clause-journal c =
    (arrived_goes c.args.self.now c.push_reserved.new.self c.end_flight.new.flying c.admit.new.self
    c.args.key.now c.args.address c.args.pass _
    c.args.content.now c.in_ok-shared.shared c.deref.result.now _ _
    c.residents_are_there_once.ensures.present c.requires.lives c.requires.knows c.requires.flies
    c.requires.content c.requires.address (c.len-length.ensures.value ∙ ap length c.bytes.ensures) c.digest-digest.ensures
    c.in_ok-shared.ensures.value c.deref.ensures.value c.in-Ok.ensures.fits
    c.in-Ok.ensures.evicted c.in-Ok.ensures.residents c.admit.ensures.pins c.admit.ensures.budget
    c.push_reserved.ensures.items c.push_reserved.ensures.room c.end_flight.ensures.flying).1

pub returns-in-Err-Squeezed-clause-lives : goal.returns-in-Err-Squeezed-clause-lives
returns-in-Err-Squeezed-clause-lives c =
    (squeezed_goes c.args.self.now _ _ _ c.args.key.now c.args.address c.args.pass _
    c.args.content.now c.in_ok-shared.shared c.deref.result.now _ c.end_flight-flown.result
    c.residents_are_there_once.ensures.present c.requires.lives c.requires.knows c.requires.flies
    c.requires.content c.requires.address (c.len-length.ensures.value ∙ ap length c.bytes.ensures) c.in_ok-shared.ensures.value
    c.deref.ensures.value (passes_budget _ _ _ _ _ _ c.in-Err-Squeezed.field-0-is c.in-Err-Squeezed.ensures.refused) c.in-Err-Squeezed.ensures.unchanged
    c.push_reserved-in-Err-Squeezed-2.ensures.items c.push_reserved-in-Err-Squeezed-2.ensures.room
    c.end_flight-flown.ensures.flying c.end_flight-flown.ensures.key
    c.push_reserved-in-Err-Squeezed.ensures.items
    c.push_reserved-in-Err-Squeezed.ensures.room).0

pub returns-in-Err-Squeezed-clause-journal : goal.returns-in-Err-Squeezed-clause-journal
returns-in-Err-Squeezed-clause-journal c =
    (squeezed_goes c.args.self.now c.push_reserved-in-Err-Squeezed-2.new.self
    c.end_flight-flown.new.flying c.admit.new.self c.args.key.now c.args.address c.args.pass _
    c.args.content.now c.in_ok-shared.shared c.deref.result.now
    c.push_reserved-in-Err-Squeezed.new.self c.end_flight-flown.result
    c.residents_are_there_once.ensures.present c.requires.lives c.requires.knows c.requires.flies
    c.requires.content c.requires.address (c.len-length.ensures.value ∙ ap length c.bytes.ensures) c.in_ok-shared.ensures.value
    c.deref.ensures.value (passes_budget _ _ _ _ _ _ c.in-Err-Squeezed.field-0-is c.in-Err-Squeezed.ensures.refused) c.in-Err-Squeezed.ensures.unchanged
    c.push_reserved-in-Err-Squeezed-2.ensures.items c.push_reserved-in-Err-Squeezed-2.ensures.room
    c.end_flight-flown.ensures.flying c.end_flight-flown.ensures.key
    c.push_reserved-in-Err-Squeezed.ensures.items
    c.push_reserved-in-Err-Squeezed.ensures.room).1
