use Rattle.std.proofs.Common.{◌≡◌, true}
use Rattle.view_notes.specs.Users.{Happens, adds_to}
use Rattle.view_notes.proofs.EachFollows.{FollowsUpTo}
use Rattle.view_notes.proofs.all_views.all_follow.Given as goal

-- the notes of the views before this one have followed
abbrev pub invariant-loop-view : goal.invariant-loop-view
invariant-loop-view g l =
    FollowsUpTo (Happens l.change l.address) (adds_to l.change ≡ true)
    (g.A.Awaited.awaited l.awaited) l.view-index l.fn.notes l.notes l.none_leaves
