use Rattle.std.proofs.Common.{◌≡◌, ◌&&◌, true, List, sym, ◌∙◌, ap, subst, arith}
use Rattle.view_notes.specs.declared.note.Note.{Note}
use Rattle.view_notes.specs.Agreement.{SameFixed}
use Rattle.view_notes.specs.Users.{no_lacking_leaves}
use Rattle.view_notes.proofs.Changing.{kept_changed, none_leaves, placed_changed, read_changed, right_changed}
use Rattle.view_notes.proofs.following.follow.Goals as goal

pub settle_users-requires-clause-placed : goal.settle_users-requires-clause-placed
settle_users-requires-clause-placed g c =
    rw c.change_users.ensures
    (placed_changed c.args.change c.args.users.now 0 c.args.notes.now c.requires.agree.placed)

pub returns-clause-follows : goal.returns-clause-follows
returns-clause-follows g c =
    let s = c.settle_users.ensures in
    let a = c.requires.agree in
    record {
      agree = record {
        few = omega (arith, a.few, c.settle_users.auto.notes, c.change_users.auto.notes);
        placed = s.placed;
        read = s.read (rw c.change_users.ensures
            (read_changed c.args.change c.args.users.now 0 c.args.notes.now a.read));
      };
      changed =
          subst (λ (ns : List Note). SameFixed ns c.settle_users.new.notes) c.change_users.ensures
          s.fixed;
    }

pub returns-clause-answer : goal.returns-clause-answer
returns-clause-answer g c = λ adds.
    let change = c.args.change in
    let users = c.args.users.now in
    let old = c.args.notes.now in
    let lacking = g.L.Lacking.lacking c.args.lacking.now in
    let falls = c.settle_users.ensures.falls (rw c.change_users.ensures
    (right_changed change users 0 old adds c.requires.agree.read)) in
    let none : no_lacking_leaves lacking 0 old c.change_users.new.notes ≡ true =
    rw c.change_users.ensures (none_leaves change users lacking 0 old) in
    sym (falls.leaves old (rw c.change_users.ensures (kept_changed change users 0 old))
    ∙ ap (λ b. b && c.settle_users.result) none)
