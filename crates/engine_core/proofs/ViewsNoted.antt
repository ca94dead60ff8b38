-- The latest views are noted.
use Rattle.std.specs.Global.{Vec}
use Rattle.std.proofs.Common.{ℕ, ◌≡◌, ◌+◌, ◌<◌, ◌≤◌, true, Option, List, [], ◌∷◌, ◌++◌, length, map, take, get_or, sym, ◌∙◌, ap, subst}
use Rattle.std.proofs.lemmas.List.{take_more}
use Rattle.expanded_tree.specs.Tree.{Tree}
use Rattle.cut_core.specs.Cut.{Holdings}
use Rattle.tile_arena.specs.Standing.{ArenaParts}
use Rattle.tree_nodes.specs.Trees.{stored_tree}
use Rattle.view_notes.specs.Asking.{AreNotesOfEach}
use Rattle.view_notes.specs.Changes.{SameHoldings}
use Rattle.view_notes.specs.Follows.{AreNotesOf, Noted}
use Rattle.view_notes.proofs.Alike.{each_alike}
use Rattle.engine_state.specs.declared.seen.Seen.{Seen}
use Rattle.engine_state.specs.Frames.{holdings, tree}
use Rattle.engine_core.specs.declared.parts.Parts.{Parts}
use Rattle.engine_core.specs.Holding.{holdings_of}
use Rattle.engine_core.specs.Mirrors.{Knows, Lives, state_of}
use Rattle.engine_core.proofs.Sides.{holdings_are, tree_is}

module _ (h : Holdings) (root : Option Tree) where
  one_more : (ns : List Noted) (views : List Seen) (n : Noted) (seen : Seen)
      → AreNotesOfEach ns (map (λ s. s.view) views) h root → AreNotesOf n seen.view h root
      → AreNotesOfEach (ns ++ n ∷ []) (map (λ s. s.view) (views ++ seen ∷ [])) h root
  one_more [] [] n seen e g = (g, tt)
  one_more [] (v ∷ views) n seen e g = absurd e
  one_more (m ∷ ns) [] n seen e g = absurd e
  one_more (m ∷ ns) (v ∷ views) n seen e g = (e.0, one_more ns views n seen e.1 g)

  -- the notes of the view at one place more
  pub noted_next : (old new : List Noted) (views : List Seen) (i : ℕ) (n : Noted) (seen : Seen)
      → i < length views → seen ≡ get_or views i seen
      → AreNotesOfEach old (map (λ s. s.view) (take i views)) h root
      → AreNotesOf n seen.view h root → new ≡ old ++ n ∷ []
      → AreNotesOfEach new (map (λ s. s.view) (take (i + 1) views)) h root
  noted_next old new views i n seen lt here before one step =
      subst (λ ns. AreNotesOfEach ns (map (λ s. s.view) (take (i + 1) views)) h root) (sym step)
      (subst (λ vs. AreNotesOfEach (old ++ n ∷ []) (map (λ s. s.view) vs) h root)
      (ap (λ s. take i views ++ s ∷ []) here ∙ sym (take_more views i seen lt))
      (one_more old (take i views) n seen before one))

pub same_turned : (old new : Holdings) → SameHoldings old new → SameHoldings new old
same_turned old new same =
    record { resident = λ x. sym (same.resident x); absent = λ x. sym (same.absent x) }

-- the notes of each view, over the contents and the tree of the core, are those of its state
pub notes_are : (p : Parts) (notes : List Noted) → Lives p
    → AreNotesOfEach notes (map (λ seen. seen.view) p.views.items)
    (holdings_of p.cache.residents p.absent.keys) (stored_tree p.arena.store)
    → AreNotesOfEach notes (map (λ seen. seen.view) (state_of p).views) (holdings (state_of p))
    (tree (state_of p))
notes_are p notes l are =
    let s = state_of p in
    let here = holdings_of p.cache.residents p.absent.keys in
    subst (λ views. AreNotesOfEach notes (map (λ seen. seen.view) views) (holdings s) (tree s))
    l.mirrors.views
    (subst (AreNotesOfEach notes (map (λ seen. seen.view) p.views.items) (holdings s)) (tree_is p l)
    (each_alike here (holdings s) (same_turned (holdings s) here (holdings_are p l)) notes
    (map (λ seen. seen.view) p.views.items) (stored_tree p.arena.store) are))

-- where the arena's nodes change, its store doesn't
pub noted_lives : (p : Parts) (arena : ArenaParts) (notes : Vec Noted) → Lives p
    → arena.store ≡ p.arena.store
    → AreNotesOfEach notes.items (map (λ seen. seen.view) p.views.items)
    (holdings_of p.cache.residents p.absent.keys) (stored_tree p.arena.store)
    → Lives (record p { arena = arena; notes = notes; noted = true })
noted_lives p arena notes l still are =
    let s = state_of p in
    let m = l.mirrors in
    record {
      is_legal = l.is_legal;
      is_opened = l.is_opened;
      mirrors = record {
        closed = m.closed;
        looks = m.looks;
        views = m.views;
        shows = m.shows;
        knows = subst (λ store. Knows s.root s.loaded s.absent store p.absent.keys) (sym still) m.knows;
        fetches = m.fetches;
        noted = λ h. notes_are p notes.items l are;
        queues = m.queues;
      };
      room = record {
        entries = l.room.entries;
        attempts = l.room.attempts;
        squeezed = l.room.squeezed;
        absent = l.room.absent;
        store = subst (λ store. length p.flying.items ≤ store.spare) (sym still) l.room.store;
      };
      few_looks = l.few_looks;
    }
