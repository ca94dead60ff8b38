use Rattle.std.proofs.Common.{◌≡◌, List, Some, ◌∙◌, ap, subst, arith}
use Rattle.std.specs.Prelude.{slice_index_or, slice_get, slice_set}
use Rattle.std.proofs.lemmas.Option.{slice_get-get_or}
use Rattle.view_notes.specs.declared.note.Note.{Note}
use Rattle.view_notes.specs.Users.{changed_note}
use Rattle.view_notes.proofs.Changing.{none_changed, user_changed}
use Rattle.view_notes.proofs.Turning.{no_note}
use Rattle.view_notes.proofs.following.change_users.Goals as goal

pub loop-user-init : goal.loop-user-init
loop-user-init c = none_changed c.args.change 0 c.args.notes.now

pub slice_copy_out-with_change : goal.slice_copy_out-with_change
slice_copy_out-with_change c =
    let inside = c.requires c.loop-user.user-index 0 c.loop-user-test.true in
    omega (arith, inside, c.loop-user.auto.notes)

pub bounds-notes-at : goal.bounds-notes-at
bounds-notes-at c =
    let inside = c.requires c.loop-user.user-index 0 c.loop-user-test.true in
    omega (arith, inside, c.loop-user.auto.notes)

pub loop-user-preserved : goal.loop-user-preserved
loop-user-preserved c =
    let i = c.loop-user.user-index in
    let ns = c.loop-user.notes in
    let u = slice_index_or c.args.users.now i 0 in
    let inside = c.requires i 0 c.loop-user-test.true in
    let x : Note = slice_index_or ns u no_note in
    let here : slice_get ns u ≡ Some x =
    slice_get-get_or ns u no_note (omega (arith, inside, c.loop-user.auto.notes)) in
    ap (slice_set ns u) c.with_change.ensures
    ∙ ap (λ (ms : List Note). slice_set ms u (changed_note c.args.change x)) c.loop-user.invariant
    ∙ user_changed c.args.change c.args.users.now i u c.args.notes.now x
    (slice_get-get_or c.args.users.now i 0 c.loop-user-test.true)
    (subst (λ (ms : List Note). slice_get ms u ≡ Some x) c.loop-user.invariant here)
