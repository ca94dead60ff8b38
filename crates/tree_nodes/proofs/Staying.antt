-- Lists whose nodes are as they were, though values were added to their tables.
use Rattle.std.proofs.Common.{ℕ, ◌≡◌, Some, List, [], ◌∷◌, length, take, sym, ◌∙◌, ap, subst, arith, take_all}
use Rattle.std.specs.List.{slice_get}
use Rattle.std.proofs.lemmas.List.{take-append-le}
use Rattle.doc_store.specs.Store.{Stored}
use Rattle.fixed_geometry.specs.Maps.{Map, identity}
use Rattle.tree_nodes.specs.declared.node_list.NodeList.{NodeList}
use Rattle.tree_nodes.specs.declared.tables.Tables.{Tables}
use Rattle.tree_nodes.specs.Fronts.{IsFront}
use Rattle.tree_nodes.specs.Nodes.{HasIdentity, IsSound, IsSoundList, trees_behind}
use Rattle.tree_nodes.specs.Growth.{Extends, IsEmptyList, Stays}
use Rattle.tree_nodes.proofs.Fronts.{front_get}
use Rattle.tree_nodes.proofs.Growing.{more_sound}
use Rattle.tree_nodes.proofs.NodeTrees.{trees_stay}

front_taken : {A : Type 0} (xs ys : List A) → IsFront xs ys → take (length xs) ys ≡ xs
front_taken xs ys f =
    ap (take (length xs)) f.whole ∙ take-append-le (length xs) xs f.behind (omega arith)
    ∙ take_all (length xs) xs (omega arith)

-- ---- the identity

pub still_first : (old mid : NodeList) → HasIdentity old → Extends old mid → HasIdentity mid
still_first old mid first e =
    front_get old.tables.transforms.items mid.tables.transforms.items e.tables.transforms 0
    identity first

pub empty_first : (list : NodeList) → IsEmptyList list → HasIdentity list
empty_first list e = ap (λ ms. slice_get ms 0) e.transforms

pub first_alone : (maps : List Map) → slice_get maps 0 ≡ Some identity
    → take 1 maps ≡ identity ∷ []
first_alone [] e = cc
first_alone (m ∷ maps) e = cc

-- ---- nodes

-- the nodes behind the old ones are let go
pub stays : (store : Stored) (old mid new : NodeList) (count : ℕ) → IsSoundList store old
    → Extends old mid → count ≡ length old.nodes.items
    → new.nodes.items ≡ take count mid.nodes.items → new.tables ≡ mid.tables
    → Stays store old new
stays store old mid new count sound e long nodes tables =
    let same : new.nodes.items ≡ old.nodes.items =
    nodes ∙ ap (λ k. take k mid.nodes.items) long
    ∙ front_taken old.nodes.items mid.nodes.items e.nodes in
    record {
      nodes = same;
      trees = ap (λ ts. trees_behind store ts [] new.nodes.items) tables
          ∙ ap (trees_behind store mid.tables []) same
          ∙ trees_stay store old.tables mid.tables e.tables old.nodes.items sound.nodes;
      sound = record {
        nodes = λ i n at. subst (λ ts. IsSound store ts i n) (sym tables)
            (more_sound store old.tables mid.tables i n e.tables
            (sound.nodes i n (ap (λ ns. slice_get ns i) (sym same) ∙ at)));
        first = ap (λ (ts : Tables). slice_get ts.transforms.items 0) tables
            ∙ still_first old mid sound.first e;
      };
    }
