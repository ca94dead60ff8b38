use Rattle.std.proofs.Common.{arith, refl}
use Rattle.view_notes.proofs.Falling.{turns_falls, turns_right}
use Rattle.view_notes.proofs.Turning.{make_turns, no_note, placed_few, turns_before, turns_fixed, turns_placed, turns_read, turns_some, within, length_set}
use Rattle.view_notes.proofs.settle.turn.Goals as goal

pub slice_copy_out-above : goal.slice_copy_out-above
slice_copy_out-above c =
    let r = c.requires in
    let before = turns_before _ c.args.at c.args.parent c.args.note r.placed r.here r.below in
    let inside = within _ c.args.at c.args.note r.here in
    omega (arith, before, inside)

pub with_child-counted-requires-clause-some : goal.with_child-counted-requires-clause-some
with_child-counted-requires-clause-some c =
    let r = c.requires in
    turns_some _ _ _ _ _ _ (make_turns _ c.args.at c.args.parent c.args.note no_note c.args.ready
    r.placed r.here r.below r.other r.read)

pub with_child-counted-requires-clause-few : goal.with_child-counted-requires-clause-few
with_child-counted-requires-clause-few c =
    let r = c.requires in
    let t = make_turns _ c.args.at c.args.parent c.args.note no_note c.args.ready
    r.placed r.here r.below r.other r.read in
    omega (arith, placed_few 0 _ _ _ r.placed t.there, r.few)

pub bounds-notes-at : goal.bounds-notes-at
bounds-notes-at c = within _ c.args.at c.args.note c.requires.here

pub bounds-notes-parent : goal.bounds-notes-parent
bounds-notes-parent c =
    let r = c.requires in
    let before = turns_before _ c.args.at c.args.parent c.args.note r.placed r.here r.below in
    let inside = within _ c.args.at c.args.note r.here in
    omega (arith, before, inside, length_set c.args.notes.now c.args.at c.with_ready.result)

pub returns-clause-before : goal.returns-clause-before
returns-clause-before c =
    let r = c.requires in turns_before _ c.args.at c.args.parent c.args.note r.placed r.here r.below

pub returns-clause-placed : goal.returns-clause-placed
returns-clause-placed c =
    let r = c.requires in
    rw (c.with_ready.ensures, c.with_child-counted.ensures)
    (turns_placed _ _ _ _ _ _ (make_turns _ c.args.at c.args.parent c.args.note no_note
    c.args.ready r.placed r.here r.below r.other r.read))

pub returns-clause-fixed : goal.returns-clause-fixed
returns-clause-fixed c =
    let r = c.requires in
    rw (c.with_ready.ensures, c.with_child-counted.ensures)
    (turns_fixed _ _ _ _ _ _ (make_turns _ c.args.at c.args.parent c.args.note no_note
    c.args.ready r.placed r.here r.below r.other r.read))

pub returns-clause-read : goal.returns-clause-read
returns-clause-read c = λ doubt h.
    let r = c.requires in
    rw (c.with_ready.ensures, c.with_child-counted.ensures)
    (turns_read _ _ _ _ _ _ (make_turns _ c.args.at c.args.parent c.args.note no_note
    c.args.ready r.placed r.here r.below r.other r.read) doubt h)

pub returns-clause-right : goal.returns-clause-right
returns-clause-right c = λ up h.
    let r = c.requires in
    rw (c.with_ready.ensures, c.with_child-counted.ensures)
    (turns_right _ _ _ _ _ _ (make_turns _ c.args.at c.args.parent c.args.note no_note
    c.args.ready r.placed r.here r.below r.other r.read) up h)

pub returns-clause-falls : goal.returns-clause-falls
returns-clause-falls c = λ up lacking.
    let r = c.requires in
    rw (c.is_kept.ensures, c.is_kept-2.ensures, c.with_ready.ensures, c.with_child-counted.ensures)
    (turns_falls _ _ _ _ _ _ (make_turns _ c.args.at c.args.parent c.args.note no_note
    c.args.ready r.placed r.here r.below r.other r.read) up lacking _ refl)
