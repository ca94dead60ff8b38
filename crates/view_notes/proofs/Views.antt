-- What one view wants, and what several want.
use Rattle.std.proofs.Common.{ℕ, ◌≡◌, Bool, true, false, Option, List, [], ◌∷◌, ◌++◌, refl, sym, ◌∙◌, ap}
use Rattle.std.specs.Prelude.{if◌then◌else◌, bytes_eq, nat_le, length, not, ◌&&◌}
use Rattle.std.specs.List.{flat_map}
use Rattle.std.proofs.lemmas.List.Elements.{filter-append}
use Rattle.std.proofs.lemmas.Slice.Eq.{bytes_eq-Decides}
use Rattle.tile_types.specs.declared.key.Key.{Key}
use Rattle.tile_types.specs.declared.want.Want.{Want}
use Rattle.tile_types.specs.declared.key.Kind.{Kind}
use Rattle.tile_types.specs.declared.key.Kind.TheVariants.{Content, Tileset, Subtree}
use Rattle.tile_types.specs.Keys.{same_key, same_kind}
use Rattle.error_test.specs.Views.{ViewParts}
use Rattle.expanded_tree.specs.Tree.{Tree}
use Rattle.cut_core.specs.declared.findings.TheConstants.{VISITED_LIMIT}
use Rattle.cut_core.specs.Cut.{Holdings}
use Rattle.cut_core.specs.Distances.{measured_visits}
use Rattle.cut_core.specs.Visits.{content_key, keeps_own, visits}
use Rattle.cut_core.specs.Wants.{each_once, wanted, wants_of}
use Rattle.cut_core.proofs.Bools.{and_left, and_right}
use Rattle.view_notes.specs.Views.{EachLoses, EachTakeable, RespectsKeys, other_wants, takeable, wanted_by, wishes}
use Rattle.view_notes.proofs.Once.{once_those}

once_by : (b : Bool) (ws : List Want)
    → (if b then each_once ws else []) ≡ each_once (if b then ws else [])
once_by true ws = refl
once_by false ws = refl

pub wanted_once : (view : ViewParts) (holdings : Holdings) (root : Option Tree)
    → wanted view holdings root ≡ each_once (wishes view holdings root)
wanted_once view holdings root =
    once_by (nat_le (length (visits view root)) VISITED_LIMIT)
    (flat_map (λ m. wants_of holdings (keeps_own view holdings m.tree) m)
    (measured_visits view root))

is_content : (k l : Kind) → same_kind k l ≡ true → same_kind Content k ≡ same_kind Content l
is_content Content Content e = refl
is_content Content Tileset e = cc
is_content Content (Subtree o n c) e = cc
is_content Tileset Content e = cc
is_content Tileset Tileset e = refl
is_content Tileset (Subtree o n c) e = cc
is_content (Subtree o n c) Content e = cc
is_content (Subtree o n c) Tileset e = cc
is_content (Subtree o n c) (Subtree o' n' c') e = refl

others_respect : (a : List ℕ) → RespectsKeys (λ k. not (same_key (content_key a) k))
others_respect a k l e =
    ap (λ b. not (b && bytes_eq a k.address)) (is_content k.kind l.kind (and_left _ _ e))
    ∙ ap (λ x. not (same_kind Content l.kind && bytes_eq a x))
    ((bytes_eq-Decides k.address l.address).0 (and_right (same_kind k.kind l.kind) _ e))

module _ (old new : Holdings) (root : Option Tree) where
  abbrev all : Holdings → List ViewParts → List Want
  all h views = flat_map (λ view. wishes view h root) views

  pub all_lose : (a : List ℕ) (views : List ViewParts) → EachLoses a old new root views
      → wanted_by views new root ≡ other_wants (content_key a) (wanted_by views old root)
  all_lose a views e =
      ap each_once (each views e)
      ∙ once_those (λ k. not (same_key (content_key a) k)) (others_respect a) (all old views)
    where
      each : (vs : List ViewParts) → EachLoses a old new root vs
          → all new vs ≡ other_wants (content_key a) (all old vs)
      each [] h = refl
      each (v ∷ vs) h =
          ap (λ ws. ws ++ all new vs) h.0
          ∙ ap (λ ws. other_wants (content_key a) (wishes v old root) ++ ws) (each vs h.1)
          ∙ sym (filter-append (λ (w : Want). not (same_key (content_key a) w.key))
          (wishes v old root) (all old vs))

  pub all_takeable : (may : Key → Bool) (views : List ViewParts) → RespectsKeys may
      → EachTakeable may old new root views
      → takeable may (wanted_by views new root) ≡ takeable may (wanted_by views old root)
  all_takeable may views respects e =
      sym (once_those may respects (all new views)) ∙ ap each_once (each views e)
      ∙ once_those may respects (all old views)
    where
      each : (vs : List ViewParts) → EachTakeable may old new root vs
          → takeable may (all new vs) ≡ takeable may (all old vs)
      each [] h = refl
      each (v ∷ vs) h =
          filter-append (λ (w : Want). may w.key) (wishes v new root) (all new vs)
          ∙ ap (λ ws. ws ++ takeable may (all new vs)) h.0
          ∙ ap (λ ws. takeable may (wishes v old root) ++ ws) (each vs h.1)
          ∙ sym (filter-append (λ (w : Want). may w.key) (wishes v old root) (all old vs))
