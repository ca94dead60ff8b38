use Rattle.std.proofs.Common.{sym, ◌∙◌}
use Rattle.std.specs.Prelude.{slice_index_or}
use Rattle.std.proofs.lemmas.Option.{slice_get-get_or}
use Rattle.view_notes.proofs.Keeping.{keeps_here, keeps_none, keeps_some}
use Rattle.view_notes.proofs.Turning.{no_note}
use Rattle.view_notes.proofs.following.keeps.Goals as goal

pub returns-then-is_kept : goal.returns-then-is_kept
returns-then-is_kept c =
    let i = c.loop-user.user-index in
    let u = slice_index_or c.args.users.now i 0 in
    let here = slice_get-get_or c.args.notes.now u no_note (c.requires i 0 c.loop-user-test.true) in
    sym (keeps_some c.args.notes.now c.args.users.now i u
    (slice_get-get_or c.args.users.now i 0 c.loop-user-test.true)
    (keeps_here c.args.notes.now u _ here ∙ sym c.is_kept.ensures ∙ c.if-is_kept.true))

pub loop-user-preserved : goal.loop-user-preserved
loop-user-preserved c =
    let i = c.loop-user.user-index in
    let u = slice_index_or c.args.users.now i 0 in
    let here = slice_get-get_or c.args.notes.now u no_note (c.requires i 0 c.loop-user-test.true) in
    keeps_none c.args.notes.now c.args.users.now i u
    (slice_get-get_or c.args.users.now i 0 c.loop-user-test.true)
    c.loop-user.invariant
    (keeps_here c.args.notes.now u _ here ∙ sym c.is_kept.ensures ∙ c.if-is_kept.false)
