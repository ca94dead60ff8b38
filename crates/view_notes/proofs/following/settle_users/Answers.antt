use Rattle.std.proofs.Common.{◌+◌, drop, subst, ◌∙◌}
use Rattle.std.specs.Prelude.{slice_index_or}
use Rattle.std.proofs.lemmas.Option.{slice_get-get_or}
use Rattle.std.proofs.Math.ListN.{drop_of_length-le}
use Rattle.view_notes.specs.Agreement.{AreReadBut}
use Rattle.view_notes.specs.Users.{is_among}
use Rattle.view_notes.proofs.Changing.{dropped}
use Rattle.view_notes.proofs.Falling.{falls_then}
use Rattle.view_notes.proofs.following.settle_users.Goals as goal

pub loop-user-preserved : goal.loop-user-preserved
loop-user-preserved g c =
    let i = c.loop-user.invariant in
    let t = c.settle-none.ensures in
    let users = c.args.users.now in
    let index = c.loop-user.user-index in
    let rest = dropped users index (slice_index_or users index 0)
    (slice_get-get_or users index 0 c.loop-user-test.true) in
    record {
      placed = t.placed;
      same_fixed = t.fixed ∙ i.same_fixed;
      read = λ h. t.read (is_among (drop (index + 1) users))
          (subst (λ us. AreReadBut (is_among us) 0 c.loop-user.notes) rest (i.read h));
      right = λ h. t.right (i.right h);
      falls = λ h.
          falls_then _ c.loop-user.none_leaves c.settle-none.result _ _ _ (i.falls h)
          (t.falls (i.right h));
    }

pub returns-clause-read : goal.returns-clause-read
returns-clause-read g c = λ h.
    subst (λ us. AreReadBut (is_among us) 0 c.loop-user.notes)
    (drop_of_length-le c.args.users.now c.loop-user-test.false) (c.loop-user.invariant.read h)
