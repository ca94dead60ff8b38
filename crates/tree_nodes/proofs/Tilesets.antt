-- The nodes of a tileset by what is known of it.
use Rattle.std.proofs.Common.{ℕ, ◌≡◌, ◌∷◌, Option, Some, None, option_to_list, List, [], refl, sym, ap, subst, ◌∙◌}
use Rattle.std.specs.Option.{option_and_then}
use Rattle.fixed_geometry.specs.Maps.{Map}
use Rattle.tile_types.specs.declared.refine.Refine.{Refine}
use Rattle.tile_uri.specs.Addresses.{IsAddress}
use Rattle.tile_types.specs.declared.key.Key.{Key}
use Rattle.tileset_schema.specs.Tiles.{WrittenTile, written}
use Rattle.doc_store.specs.Docs.{Docs, Found, waiting, lost, here, tileset_at, tileset_key}
use Rattle.doc_store.specs.Store.{Stored, docs}
use Rattle.expanded_tree.specs.Tree.{Tree, pending}
use Rattle.tree_expansion.specs.Expansion.{Holder, Below, tileset, tilesets, waiting_facts, written_tree}
use Rattle.tree_nodes.specs.declared.node.Handed.{Handed}
use Rattle.tree_nodes.specs.declared.node_list.NodeList.{NodeList}
use Rattle.tree_nodes.specs.Found.{IsNumber, IsWaiting}
use Rattle.tree_nodes.specs.Tiles.{IsTileAt, address_in, tile_at}
use Rattle.tree_nodes.specs.Places.{map_in}
use Rattle.tree_nodes.specs.Growth.{handed_holder, handed_name, written_at}
use Rattle.tree_nodes.proofs.Rows.{is_at, root_stands}

abbrev root_for : Docs → Below → List ℕ → Holder → List ℕ → Found WrittenTile → Option Tree
root_for known below name holder address found =
    elim found [
      | waiting ↦ Some (pending name (waiting_facts holder) (tileset_key address))
      | lost ↦ None
      | here root ↦ written_tree known below address name holder root
    ]

-- the error of the tile above tells nothing of the tile
pub any_error : (known : Docs) (below : Below) (base name : List ℕ) (map : Map) (error : ℕ)
    (refine : Refine) (t : WrittenTile)
    → written_tree known below base name
    (record { transform = map; error = error; refine = refine }) t
    ≡ written_tree known below base name
    (record { transform = map; error = 0; refine = refine }) t
any_error known below base name map error refine (written own children) = refl

module _ (store : Stored) (below : Below) (name : List ℕ) (holder : Holder) (address : List ℕ) where
  pub of_waiting : (key : Key) → IsWaiting store address key
      → pending name (waiting_facts holder) key ∷ []
      ≡ option_to_list (tileset (docs store) below name holder address)
  of_waiting key w =
      ap (λ k. pending name (waiting_facts holder) k ∷ []) w.key_is
      ∙ sym (ap (λ f. option_to_list (root_for (docs store) below name holder address f)) w.unread)

  pub of_lost : tileset_at (docs store) address ≡ lost
      → tileset (docs store) below name holder address ≡ None
  of_lost e = ap (root_for (docs store) below name holder address) e

  pub of_root : (root : WrittenTile) → tileset_at (docs store) address ≡ here root
      → tileset (docs store) below name holder address
      ≡ written_tree (docs store) below address name holder root
  of_root root e = ap (root_for (docs store) below name holder address) e

pub root_there : (store : Stored) (address : List ℕ) (document : ℕ)
    → IsNumber store address document → IsAddress address → IsTileAt store document 0
root_there store address document n is_address = record {
  tiles = _;
  read = n.tiles;
  tree = n.root;
  stands = root_stands n.root;
  address = subst IsAddress (sym n.stands) is_address;
}

pub root_at : (store : Stored) (address : List ℕ) (document : ℕ)
    (n : IsNumber store address document) → tile_at store document 0 ≡ Some n.root
root_at store address document n = is_at store document 0 _ n.root n.tiles (root_stands n.root)

-- the root of the tileset of this number is what the document writes out first
pub root_written : (store : Stored) (list : NodeList) (handed : Handed) (error : ℕ)
    (address : List ℕ) (document : ℕ) (n : IsNumber store address document)
    → written_at store list handed document 0
    ≡ tileset (docs store) (tilesets (docs store) handed.levels) (handed_name store list handed)
    (handed_holder list handed error) address
root_written store list handed error address document n =
    let below = tilesets (docs store) handed.levels in
    let name = handed_name store list handed in
    let map = map_in list.tables.transforms.items handed.transform in
    ap (option_and_then (written_tree (docs store) below (address_in store document) name
    (handed_holder list handed 0))) (root_at store address document n)
    ∙ ap (λ base. written_tree (docs store) below base name (handed_holder list handed 0) n.root)
    n.stands
    ∙ sym (any_error (docs store) below address name map error handed.refine n.root)
    ∙ sym (of_root store below name (handed_holder list handed error) address n.root n.read)
