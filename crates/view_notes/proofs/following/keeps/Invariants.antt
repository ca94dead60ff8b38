use Rattle.std.proofs.Common.{◌≡◌, false, take}
use Rattle.std.specs.List.{list_any}
use Rattle.view_notes.specs.Users.{keeps_at}
use Rattle.view_notes.proofs.following.keeps.Given as goal

-- the users before this one don't keep their own contents
abbrev pub invariant-loop-user : goal.invariant-loop-user
invariant-loop-user l = list_any (keeps_at l.notes) (take l.user-index l.users) ≡ false
