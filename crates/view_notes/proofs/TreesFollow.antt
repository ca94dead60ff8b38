-- The notes of a tree follow a content that changes.
use Rattle.std.proofs.Common.{ℕ, zero, suc, ◌≡◌, ◌+◌, ◌-◌, ◌≤◌, Bool, true, false, not, ◌&&◌, ◌||◌, Option, List, [], ◌∷◌, length, map, refl, sym, ◌∙◌, ap, subst, arith}
use Rattle.std.specs.Prelude.{bytes_eq, if◌then◌else◌}
use Rattle.std.specs.List.{filter}
use Rattle.std.proofs.lemmas.Bool.{lt-ltb}
use Rattle.std.proofs.lemmas.List.Elements.{filter_agree}
use Rattle.std.proofs.lemmas.Slice.Eq.{bytes_eq-Decides}
use Rattle.error_test.specs.Views.{ViewParts}
use Rattle.expanded_tree.specs.Tree.{Tree, addresses_of}
use Rattle.cut_core.specs.Cut.{Holdings}
use Rattle.view_notes.specs.declared.change.Change.{Change}
use Rattle.view_notes.specs.declared.change.Change.TheVariants.{Resident, Absent, Gone}
use Rattle.view_notes.specs.declared.note.Note.{Note}
use Rattle.view_notes.specs.Agreement.{fixed}
use Rattle.view_notes.specs.Changes.{BecomesAbsent, BecomesResident, Goes}
use Rattle.cut_core.specs.Linked.{Linked, linked_visits}
use Rattle.view_notes.specs.Notes.{note_of, root_notes}
use Rattle.view_notes.specs.Users.{AreUsers, FollowsChange, Happens, changed_note, changed_notes, changed_times, times_in, times_of}
use Rattle.view_notes.specs.Views.{names}
use Rattle.view_notes.proofs.Counting.{filter_few, one_content_more}
use Rattle.view_notes.proofs.Lists.{filter_both}
use Rattle.view_notes.proofs.Settling.{missing_nonresident, missing_present}
use Rattle.view_notes.proofs.TreeNotes.{root_agrees, names_noted, unique}

-- ---- so many contents of a node

resident_times : (k : ℕ) (n : Note) → n.resident + k ≤ n.own
    → changed_times Resident k n ≡ record n { resident = n.resident + k }
resident_times zero n few =
    let none : n.resident ≡ n.resident + 0 = omega arith in ap (λ r. record n { resident = r }) none
resident_times (suc k) n few =
    let before = resident_times k n (omega (arith, few)) in
    let one : (n.resident + k) + 1 ≡ n.resident + suc k = omega arith in
    ap (changed_note Resident) before
    ∙ ap (λ b. record n { resident = if b then (n.resident + k) + 1 else n.resident + k })
    (lt-ltb (n.resident + k) n.own (omega (arith, few)))
    ∙ ap (λ r. record n { resident = r }) one

absent_times : (k : ℕ) (n : Note) → n.resident + k ≤ n.own
    → changed_times Absent k n ≡ record n { own = n.own - k }
absent_times zero n few =
    let none : n.own ≡ n.own - 0 = omega arith in ap (λ r. record n { own = r }) none
absent_times (suc k) n few =
    let before = absent_times k n (omega (arith, few)) in
    let one : (n.own - k) - 1 ≡ n.own - suc k = omega arith in
    ap (changed_note Absent) before
    ∙ ap (λ b. record n { own = if b then (n.own - k) - 1 else n.own - k })
    (lt-ltb n.resident (n.own - k) (omega (arith, few)))
    ∙ ap (λ r. record n { own = r }) one

gone_times : (k : ℕ) (n : Note)
    → changed_times Gone k n ≡ record n { resident = n.resident - k }
gone_times zero n =
    let none : n.resident ≡ n.resident - 0 = omega arith in ap (λ r. record n { resident = r }) none
gone_times (suc k) n =
    let one : (n.resident - k) - 1 ≡ n.resident - suc k = omega arith in
    ap (changed_note Gone) (gone_times k n) ∙ ap (λ r. record n { resident = r }) one

-- ---- what changes of a node

abbrev there : Holdings → List ℕ → Bool
there h x = not (h.absent x)

abbrev present : Holdings → List ℕ → Bool
present h x = h.resident x && not (h.absent x)

-- how many contents of a node are there, and how many of these are resident
abbrev own_of : Holdings → List (List ℕ) → ℕ
own_of h xs = length (filter (there h) xs)

abbrev resident_of : Holdings → List (List ℕ) → ℕ
resident_of h xs = length (filter h.resident (filter (there h) xs))

counted : (h : Holdings) (xs : List (List ℕ)) → length (filter (present h) xs) ≡ resident_of h xs
counted h xs = ap length (filter_both h.resident (there h) xs)

or_and : (e r s : Bool) → (e ≡ true → s ≡ true) → ((e || r) && s) ≡ (e || (r && s))
or_and true r s h = h refl
or_and false r s h = refl

resident_more : (a : List ℕ) (old new : Holdings) → BecomesResident a old new
    → (xs : List (List ℕ)) → resident_of new xs ≡ resident_of old xs + times_of a xs
resident_more a old new b xs =
    sym (counted new xs)
    ∙ one_content_more (present old) (present new) a more apart xs
    ∙ ap (λ n. n + times_of a xs) (counted old xs)
  where
    here : (x : List ℕ) → bytes_eq a x ≡ true → a ≡ x
    here x e = (bytes_eq-Decides a x).0 e

    more : (x : List ℕ) → present new x ≡ (bytes_eq a x || present old x)
    more x =
        ap (λ r. r && not (new.absent x)) (b.resident x)
        ∙ ap (λ s. (bytes_eq a x || old.resident x) && not s) (b.absent x)
        ∙ or_and (bytes_eq a x) (old.resident x) (not (old.absent x))
        (λ e. ap not (sym (ap old.absent (here x e)) ∙ missing_present old a b.was))

    apart : (x : List ℕ) → bytes_eq a x ≡ true → present old x ≡ false
    apart x e =
        ap (λ r. r && not (old.absent x))
        (sym (ap old.resident (here x e)) ∙ missing_nonresident old a b.was)

own_less : (a : List ℕ) (old new : Holdings) → BecomesAbsent a old new
    → (xs : List (List ℕ)) → own_of old xs ≡ own_of new xs + times_of a xs
own_less a old new b xs = one_content_more (there new) (there old) a more apart xs
  where
    by : (x : List ℕ) (e : Bool) → bytes_eq a x ≡ e
        → not (old.absent x) ≡ (e || not (e || old.absent x))
    by x true e =
        ap not (sym (ap old.absent ((bytes_eq-Decides a x).0 e)) ∙ missing_present old a b.was)
    by x false e = refl

    more : (x : List ℕ) → there old x ≡ (bytes_eq a x || there new x)
    more x =
        by x (bytes_eq a x) refl ∙ ap (λ s. bytes_eq a x || not s) (sym (b.absent x))

    apart : (x : List ℕ) → bytes_eq a x ≡ true → there new x ≡ false
    apart x e = ap not (b.absent x ∙ ap (λ s. s || old.absent x) e)

resident_stays : (a : List ℕ) (old new : Holdings) → BecomesAbsent a old new
    → (xs : List (List ℕ)) → resident_of new xs ≡ resident_of old xs
resident_stays a old new b xs =
    sym (counted new xs) ∙ ap length (filter_agree (present new) (present old) same xs)
    ∙ counted old xs
  where
    by : (x : List ℕ) (e : Bool) → bytes_eq a x ≡ e
        → (old.resident x && not (e || old.absent x)) ≡ (old.resident x && not (old.absent x))
    by x true e =
        let gone : old.resident x ≡ false =
        sym (ap old.resident ((bytes_eq-Decides a x).0 e)) ∙ missing_nonresident old a b.was in
        ap (λ r. r && false) gone ∙ sym (ap (λ r. r && not (old.absent x)) gone)
    by x false e = refl

    same : (x : List ℕ) → present new x ≡ present old x
    same x =
        ap (λ r. r && not (new.absent x)) (b.resident x)
        ∙ ap (λ s. old.resident x && not s) (b.absent x) ∙ by x (bytes_eq a x) refl

resident_less : (a : List ℕ) (old new : Holdings) → Goes a old new
    → (xs : List (List ℕ)) → resident_of old xs ≡ resident_of new xs + times_of a xs
resident_less a old new b xs =
    sym (counted old xs)
    ∙ one_content_more (present new) (present old) a more apart xs
    ∙ ap (λ n. n + times_of a xs) (counted new xs)
  where
    by : (x : List ℕ) (e : Bool) → bytes_eq a x ≡ e
        → present old x ≡ (e || ((not e && old.resident x) && not (old.absent x)))
    by x true e =
        let here = (bytes_eq-Decides a x).0 e in
        ap (λ r. r && not (old.absent x)) (sym (ap old.resident here) ∙ b.was)
        ∙ ap not (sym (ap old.absent here) ∙ b.there)
    by x false e = refl

    more : (x : List ℕ) → present old x ≡ (bytes_eq a x || present new x)
    more x =
        by x (bytes_eq a x) refl
        ∙ ap (λ r. bytes_eq a x || (r && not (old.absent x))) (sym (b.evicts.resident x))
        ∙ ap (λ s. bytes_eq a x || (new.resident x && not s)) (sym (b.evicts.absent x))

    apart : (x : List ℕ) → bytes_eq a x ≡ true → present new x ≡ false
    apart x e =
        ap (λ r. r && not (new.absent x))
        (b.evicts.resident x ∙ ap (λ s. not s && old.resident x) e)

own_stays : (old new : Holdings) → ((x : List ℕ) → new.absent x ≡ old.absent x)
    → (xs : List (List ℕ)) → own_of new xs ≡ own_of old xs
own_stays old new e xs =
    ap length (filter_agree (there new) (there old) (λ x. ap not (e x)) xs)

-- ---- the note of a node

abbrev numbered : ViewParts → Holdings → Linked → ℕ → ℕ → Note
numbered view h n own resident =
    record (fixed (note_of view h n)) { own = own; resident = resident }

node_follows : (change : Change) (a : List ℕ) (view : ViewParts) (old new : Holdings) (n : Linked)
    → Happens change a old new
    → fixed (note_of view new n)
    ≡ fixed (changed_times change (times_of a (addresses_of n.tree)) (note_of view old n))
node_follows Resident a view old new n b =
    let xs = addresses_of n.tree in
    let k = times_of a xs in
    let more = resident_more a old new b xs in
    let own = own_stays old new b.absent xs in
    let few : resident_of old xs + k ≤ own_of old xs =
    omega (arith, more, own, filter_few new.resident (filter (there new) xs)) in
    ap (λ o. numbered view old n o (resident_of new xs)) own
    ∙ ap (λ r. numbered view old n (own_of old xs) r) more
    ∙ sym (ap fixed (resident_times k (note_of view old n) few))
node_follows Absent a view old new n b =
    let xs = addresses_of n.tree in
    let k = times_of a xs in
    let less = own_less a old new b xs in
    let same = resident_stays a old new b xs in
    let few : resident_of old xs + k ≤ own_of old xs =
    omega (arith, less, same, filter_few new.resident (filter (there new) xs)) in
    let own : own_of new xs ≡ own_of old xs - k = omega (arith, less) in
    ap (λ o. numbered view old n o (resident_of new xs)) own
    ∙ ap (λ r. numbered view old n (own_of old xs - k) r) same
    ∙ sym (ap fixed (absent_times k (note_of view old n) few))
node_follows Gone a view old new n b =
    let xs = addresses_of n.tree in
    let k = times_of a xs in
    let less = resident_less a old new b xs in
    let own = own_stays old new b.evicts.absent xs in
    let resident : resident_of new xs ≡ resident_of old xs - k = omega (arith, less) in
    ap (λ o. numbered view old n o (resident_of new xs)) own
    ∙ ap (λ r. numbered view old n (own_of old xs) r) resident
    ∙ sym (ap fixed (gone_times k (note_of view old n)))

-- ---- the notes of all nodes

module _ (change : Change) (a : List ℕ) (users : List ℕ) (view : ViewParts) (old new : Holdings)
    (happens : Happens change a old new) where
  all_follow : (at : ℕ) (ns : List Linked) → AreUsers a users at (map (λ n. addresses_of n.tree) ns)
      → map fixed (map (note_of view new) ns)
      ≡ map fixed (changed_notes change users at (map (note_of view old) ns))
  all_follow at [] h = refl
  all_follow at (n ∷ ns) h =
      ap (λ x. x ∷ map fixed (map (note_of view new) ns))
      (node_follows change a view old new n happens
      ∙ ap (λ k. fixed (changed_times change k (note_of view old n))) (sym h.0))
      ∙ ap (λ xs. fixed (changed_times change (times_in users at) (note_of view old n)) ∷ xs)
      (all_follow (at + 1) ns h.1)

  pub notes_follow : (root : Option Tree) (ns ms : List Note) → ns ≡ root_notes view old root
      → AreUsers a users 0 (names view root) → FollowsChange change users ns ms
      → ms ≡ root_notes view new root
  notes_follow root ns ms e uses f =
      let linked = subst (AreUsers a users 0) (sym (names_noted view root)) uses in
      sym (unique ms (root_notes view new root)
      (all_follow 0 (linked_visits view root) linked
      ∙ ap (λ (xs : List Note). map fixed (changed_notes change users 0 xs)) (sym e)
      ∙ sym f.changed) f.agree (root_agrees view new root))
