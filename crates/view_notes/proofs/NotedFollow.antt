-- The notes of a view follow what happens.
use Rattle.std.proofs.Common.{ℕ, suc, ◌≡◌, ◌+◌, Bool, List, [], ◌∷◌, sym, ◌∙◌, ap, subst, arith}
use Rattle.std.specs.Prelude.{slice_index_or}
use Rattle.std.specs.List.{list_any}
use Rattle.view_notes.specs.declared.change.Change.{Change}
use Rattle.view_notes.specs.declared.note.Note.{Note}
use Rattle.view_notes.specs.Follows.{Follow, Noted, TellsKept, TellsLeaving}
use Rattle.view_notes.specs.Users.{AreLacking, AreUsers, FollowsChange, Happens, keeps_at, no_lacking_leaves}
use Rattle.view_notes.proofs.Keeping.{root_kept, root_leaves}
use Rattle.view_notes.proofs.TreesFollow.{notes_follow}

-- where `lacking` tells of each number whether the addresses at it have one of the contents
are_lacking : (lacking : ℕ → Bool) (f : List ℕ → Bool) (at : ℕ) (names : List (List (List ℕ)))
    → ((i : ℕ) → lacking (at + i) ≡ list_any f (slice_index_or names i []))
    → AreLacking lacking f at names
are_lacking lacking f at [] h = tt
are_lacking lacking f at (xs ∷ names) h =
    let here : at + 0 ≡ at = omega arith in (
      ap lacking (sym here) ∙ h 0,
      are_lacking lacking f (at + 1) names (λ i.
          let there : at + 1 + i ≡ at + suc i = omega arith in
          ap lacking there ∙ h (suc i)),
    )

pub lacking_named : (f : List ℕ → Bool) (names : List (List (List ℕ)))
    → AreLacking (λ i. list_any f (slice_index_or names i [])) f 0 names
lacking_named f names =
    are_lacking (λ i. list_any f (slice_index_or names i [])) f 0 names (λ i.
    let same : 0 + i ≡ i = omega arith in
    ap (λ n. list_any f (slice_index_or names n [])) same)

-- the notes of this record, where these are the notes alone
abbrev pub with_notes : Noted → List Note → Noted
with_notes n ns = record n { notes = ns }

pub noted_follow : (change : Change) (a : List ℕ) (users : List ℕ) (n : Noted) (ms : List Note)
    → AreUsers a users 0 n.names → FollowsChange change users n.notes ms
    → Follow (Happens change a) n (with_notes n ms)
noted_follow change a users n ms uses f view before after root are happens = record {
  notes =
      notes_follow change a users view before after happens root n.notes ms are.notes
      (subst (AreUsers a users 0) are.names uses) f;
  names = are.names;
  ranks = are.ranks;
  keys = are.keys;
}

pub noted_leaves : (change : Change) (a : List ℕ) (users : List ℕ) (n : Noted) (ms : List Note)
    (contents : List ℕ → Bool) (answer : Bool)
    → AreUsers a users 0 n.names → FollowsChange change users n.notes ms
    → answer
    ≡ no_lacking_leaves (λ i. list_any contents (slice_index_or n.names i [])) 0 n.notes ms
    → TellsLeaving (Happens change a) contents n answer
noted_leaves change a users n ms contents answer uses f e view before after root are happens =
    let new = noted_follow change a users n ms uses f view before after root are happens in
    let lacking = λ (i : ℕ). list_any contents (slice_index_or n.names i []) in
    e
    ∙ root_leaves lacking contents view before after root n.notes ms are.notes new.notes
    (subst (AreLacking lacking contents 0) are.names (lacking_named contents n.names))

pub noted_kept : (a : List ℕ) (users : List ℕ) (n : Noted) (answer : Bool)
    → AreUsers a users 0 n.names → answer ≡ list_any (keeps_at n.notes) users
    → TellsKept a n answer
noted_kept a users n answer uses e view holdings root are there =
    e
    ∙ root_kept view holdings a users there root n.notes are.notes
    (subst (AreUsers a users 0) are.names uses)
