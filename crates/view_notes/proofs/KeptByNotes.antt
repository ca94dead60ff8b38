-- Whether the notes name a content that is kept.
use Rattle.std.proofs.Common.{ℕ, ◌≡◌, ◌+◌, Bool, true, false, not, ◌&&◌, ◌||◌, Option, List, [], ◌∷◌, length, map, refl, sym, ◌∙◌, ap, arith}
use Rattle.std.specs.Prelude.{◌==◌, bytes_eq, nat_le}
use Rattle.std.specs.List.{flat_map, list_any}
use Rattle.std.proofs.lemmas.List.Folds.{list_any-append}
use Rattle.error_test.specs.Views.{ViewParts}
use Rattle.expanded_tree.specs.Tree.{Tree, addresses_of}
use Rattle.cut_core.specs.declared.findings.TheConstants.{VISITED_LIMIT}
use Rattle.cut_core.specs.Cut.{Holdings, own_contents}
use Rattle.cut_core.specs.Linked.{Linked, linked_visits}
use Rattle.cut_core.specs.Visits.{keeps_own, kept_contents, visits}
use Rattle.view_notes.specs.declared.note.Note.{Note}
use Rattle.view_notes.specs.Asking.{AreNotesOfEach}
use Rattle.view_notes.specs.Follows.{AreNotesOf, Noted}
use Rattle.view_notes.specs.Keeping.{any_keeps, keeps_among, keeps_content}
use Rattle.view_notes.specs.Notes.{is_kept, note_of, root_notes}
use Rattle.view_notes.specs.Users.{AreUsers, is_among, keeps_at}
use Rattle.view_notes.specs.Views.{kept, names}
use Rattle.view_notes.proofs.Keeping.{among_times, and_if, any_kept, kept_in_order, kept_is, kept_limit, named_times, own_named}
use Rattle.view_notes.proofs.TreeNotes.{names_noted, trees_noted}

and_turned : (a b : Bool) → (a && b) ≡ (b && a)
and_turned true true = refl
and_turned true false = refl
and_turned false true = refl
and_turned false false = refl

-- ---- by the users of the content

users_keep : (a : List ℕ) (users : List ℕ) (at : ℕ) (ns : List Note) (names : List (List (List ℕ)))
    → length names ≡ length ns → AreUsers a users at names
    → any_kept users at ns ≡ keeps_among ns names a
users_keep a users at [] names e h = refl
users_keep a users at (n ∷ ns) [] e h = absurd (omega (arith, e))
users_keep a users at (n ∷ ns) (xs ∷ names) e h =
    let named : is_among users at ≡ list_any (bytes_eq a) xs =
    among_times users at ∙ ap (λ k. not (k == 0)) h.0 ∙ sym (named_times a xs) in
    ap (λ b. (b && is_kept n) || any_kept users (at + 1) ns) named
    ∙ ap (λ b. b || any_kept users (at + 1) ns) (and_turned (list_any (bytes_eq a) xs) (is_kept n))
    ∙ ap (λ b. (is_kept n && list_any (bytes_eq a) xs) || b)
    (users_keep a users (at + 1) ns names (omega (arith, e)) h.1)

pub noted_keeps : (a : List ℕ) (users : List ℕ) (ns : List Note) (names : List (List (List ℕ)))
    (answer : Bool) → length names ≡ length ns → AreUsers a users 0 names
    → answer ≡ list_any (keeps_at ns) users → answer ≡ keeps_among ns names a
noted_keeps a users ns names answer named uses e =
    e ∙ kept_in_order users ns ∙ users_keep a users 0 ns names named uses

-- ---- of a view

module _ (holdings : Holdings) (a : List ℕ) (there : holdings.absent a ≡ false) where
  module _ (view : ViewParts) where
    nodes_keep : (ns : List Linked)
        → keeps_among (map (note_of view holdings) ns) (map (λ n. addresses_of n.tree) ns) a
        ≡ list_any (bytes_eq a) (flat_map (kept_contents view holdings) (map (λ n. n.tree) ns))
    nodes_keep [] = refl
    nodes_keep (n ∷ ns) =
        let keeps = keeps_own view holdings n.tree in
        let named = list_any (bytes_eq a) (addresses_of n.tree) in
        let rest = keeps_among (map (note_of view holdings) ns)
        (map (λ n. addresses_of n.tree) ns) a in
        ap (λ b. (b && named) || rest) (kept_is view holdings n)
        ∙ ap (λ b. b || rest)
        (and_turned keeps named
        ∙ and_if keeps named (own_contents holdings n.tree) a
        (sym (own_named a holdings (addresses_of n.tree) there)))
        ∙ ap (λ b. list_any (bytes_eq a) (kept_contents view holdings n.tree) || b) (nodes_keep ns)
        ∙ sym (list_any-append (bytes_eq a) (kept_contents view holdings n.tree)
        (flat_map (kept_contents view holdings) (map (λ n. n.tree) ns)))

    pub view_keeps : (root : Option Tree) (n : Noted) → AreNotesOf n view holdings root
        → keeps_content n a ≡ list_any (bytes_eq a) (kept view holdings root)
    view_keeps root n are =
        ap (λ (ms : List Note). keeps_among ms n.names a) are.notes
        ∙ ap (λ xs. keeps_among (root_notes view holdings root) xs a)
        (are.names ∙ sym (names_noted view root))
        ∙ nodes_keep (linked_visits view root)
        ∙ ap (λ ts. list_any (bytes_eq a) (flat_map (kept_contents view holdings) ts))
        (trees_noted view root)
        ∙ ap (list_any (bytes_eq a))
        (kept_limit view holdings a [] there
        (nat_le (length (visits view root)) VISITED_LIMIT) (visits view root))

  pub views_keep : (root : Option Tree) (ns : List Noted) (views : List ViewParts)
      → AreNotesOfEach ns views holdings root
      → any_keeps ns a ≡ list_any (bytes_eq a) (flat_map (λ view. kept view holdings root) views)
  views_keep root [] [] are = refl
  views_keep root [] (view ∷ views) are = absurd are
  views_keep root (n ∷ ns) [] are = absurd are
  views_keep root (n ∷ ns) (view ∷ views) are =
      ap (λ b. b || any_keeps ns a) (view_keeps view root n are.0)
      ∙ ap (λ b. list_any (bytes_eq a) (kept view holdings root) || b)
      (views_keep root ns views are.1)
      ∙ sym (list_any-append (bytes_eq a) (kept view holdings root)
      (flat_map (λ view. kept view holdings root) views))
