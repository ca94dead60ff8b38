use Rattle.std.proofs.Common.{◌≡◌, take}
use Rattle.view_notes.specs.Users.{changed_notes}
use Rattle.view_notes.proofs.following.change_users.Given as goal

-- the notes of the users before this one were changed
abbrev pub invariant-loop-user : goal.invariant-loop-user
invariant-loop-user l = l.notes ≡ changed_notes l.change (take l.user-index l.users) 0 l.fn.notes
