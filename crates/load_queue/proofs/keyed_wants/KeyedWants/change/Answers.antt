use Rattle.std.proofs.Common.{◌∙◌, refl, sym}
use Rattle.load_queue.proofs.Changes.{keyed_still, none_changed, place_is, written, written_only}
use Rattle.load_queue.proofs.keyed_wants.KeyedWants.change.Goals as goal

pub returns-in_err-place-clause-place : goal.returns-in_err-place-clause-place
returns-in_err-place-clause-place c =
    let s = c.self.inside in
    rw (← c.self.view_is)
    (c.from_residual.ensures ∙ sym c.in_err-place.was ∙ c.get_index_of.ensures.index
    ∙ place_is c.args.key.now s.entries.items s.places.keys c.self.invariant)

pub returns-in_err-place-clause-changed : goal.returns-in_err-place-clause-changed
returns-in_err-place-clause-changed c =
    let s = c.self.inside in
    let key = c.args.key.now in
    rw (← c.self.view_is)
    (sym
    (none_changed c.args.change key s.entries.items
    (sym
    (sym c.in_err-place.was ∙ c.get_index_of.ensures.index
    ∙ place_is key s.entries.items s.places.keys c.self.invariant))))

pub invariant_of-self : goal.invariant_of-self
invariant_of-self c =
    let s = c.self.inside in
    let key = c.args.key.now in
    rw
    (written c.args.change key s.entries.items s.places.keys c.in_ok-place.place
    c.index_mut.result.now c.index.result.now c.after.result c.self.invariant
    (sym
    (sym c.in_ok-place.was ∙ c.get_index_of.ensures.index
    ∙ place_is key s.entries.items s.places.keys c.self.invariant))
    c.index_mut.ensures.value c.index.ensures c.after.ensures)
    (keyed_still c.args.change key s.entries.items s.places.keys c.self.invariant)

pub returns-clause-place : goal.returns-clause-place
returns-clause-place c =
    let s = c.self.inside in
    rw (← c.self.view_is)
    (sym c.in_ok-place.was ∙ c.get_index_of.ensures.index
    ∙ place_is c.args.key.now s.entries.items s.places.keys c.self.invariant)

pub returns-clause-changed : goal.returns-clause-changed
returns-clause-changed c =
    let s = c.self.inside in
    let key = c.args.key.now in
    rw (← c.self.view_is)
    (written c.args.change key s.entries.items s.places.keys c.in_ok-place.place
    c.index_mut.result.now c.index.result.now c.after.result c.self.invariant
    (sym
    (sym c.in_ok-place.was ∙ c.get_index_of.ensures.index
    ∙ place_is key s.entries.items s.places.keys c.self.invariant))
    c.index_mut.ensures.value c.index.ensures c.after.ensures)

pub returns-clause-only : goal.returns-clause-only
returns-clause-only c place e same =
    let s = c.self.inside in
    rw (← c.self.view_is)
    (written_only c.args.change c.args.key.now s.entries.items s.places.keys c.in_ok-place.place
    place e _ (record { want = c.index_mut.result.now.want; state = c.after.result })
    c.self.invariant
    (sym
    (sym c.in_ok-place.was ∙ c.get_index_of.ensures.index
    ∙ place_is c.args.key.now s.entries.items s.places.keys c.self.invariant))
    same refl)
