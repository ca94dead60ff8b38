-- What is loaded from a library that is told stands for the library's own tree.
use Rattle.std.proofs.Common.{◌≡◌, ℕ, Bool, true, false, Option, Some, None, List, [], ◌∷◌, length, All}
use Rattle.std.proofs.Common.{refl, sym, ap, ◌∙◌}
use Rattle.std.proofs.Common.{◌&&◌, ◌||◌, nat_eq, subst}
use Rattle.std.specs.Prelude.{if◌then◌else◌}
use Rattle.std.specs.List.{list_any}
use Rattle.std.specs.Cmp.Lexicographic.{pointwise, same_text}
use Rattle.std.proofs.lemmas.List.Elements.{All-head, All-tail}
use Rattle.tile_types.specs.declared.key.Key.{Key}
use Rattle.tile_types.specs.Keys.{same_key, same_kind}
use Rattle.source_port.specs.Library.{Library, bytes_at}
use Rattle.doc_store.specs.Docs.{Loaded, bytes_of}
use Rattle.doc_store.specs.Store.{Stored, docs}
use Rattle.doc_store.specs.declared.limits.TheConstants.{DOCUMENT_LIMIT}
use Rattle.tree_expansion.specs.Whole.{AgreesWith, document_of, full, if_within, whole_docs}
use Rattle.tree_expansion.proofs.Unseen.{cut_is_full}
use Rattle.tree_expansion.proofs.Wholes.{whole_is_full}
use Rattle.cut_core.specs.Cut.{ideal, with_all}
use Rattle.meta_schema.specs.declared.error.SchemaError.{SchemaError}
use Rattle.plain_tree.specs.Preorder.{nodes_of}
use Rattle.tree_nodes.specs.Trees.{root_address, stored_tree}
use Rattle.words_table.specs.declared.command.Command.{Command}
use Rattle.words_table.specs.declared.command.Command.TheVariants.{Cut, Tiles, Meta}
use Rattle.stream_cli.specs.Awaited.{nothing_absent}
use Rattle.stream_cli.specs.Listing.{listing}
use Rattle.stream_cli.specs.Loading.{IsFetched, IsLoadedFrom, Loads, WasFetched, root_of}
use Rattle.stream_cli.specs.Report.{cut_text}
use Rattle.stream_cli.specs.Contents.{AreFetched, FetchedContent, bytes_in, contents_of, lacking}
use Rattle.stream_cli.specs.Runs.{AreTheLibrarys, HadRoom, HasNone, IsReady, IsTheLibrarysCause, LeavesChildren, contents_asked, lines_asked, schema_refused}
use Rattle.stream_cli.proofs.Given.{given_agree, same_cut}
use Rattle.stream_cli.proofs.Lacking.{left_out}
use Rattle.stream_cli.proofs.Limits.{is_within}
use Rattle.stream_cli.proofs.Metadatas.{first_cause_is_full, metadata_is_full}
use Rattle.tile_metadata.specs.Metadata.{first_cause, metadata}

both : (a b : Bool) → (a && b) ≡ true → (a ≡ true) × (b ≡ true)
both true true e = (refl, refl)
both true false e = cc
both false b e = cc

-- keys that are the same have one address
same_address : (a b : Key) → same_key a b ≡ true → a.address ≡ b.address
same_address a b e =
    same_text a.address b.address
    (sym (both (same_kind a.kind b.kind) (pointwise nat_eq a.address b.address) e).1)

-- what was fetched is what the library has within the limit
fetched_is : (library : Library) (key : Key) (bytes : List ℕ)
    → IsFetched (Some library) key.address bytes → document_of library key ≡ Some bytes
fetched_is library key bytes f =
    ap (if_within DOCUMENT_LIMIT) f.there
    ∙ ap (λ b. if b then Some bytes else None) (is_within (length bytes) DOCUMENT_LIMIT f.within)

loaded_agrees : (library : Library) (ls : List Loaded) → All (WasFetched (Some library)) ls
    → (key : Key) (bytes : List ℕ) → bytes_of ls key ≡ Some bytes
    → document_of library key ≡ Some bytes
loaded_agrees library [] all key bytes e = cc
loaded_agrees library (l ∷ ls) all key bytes e =
    elim (same_key key l.key) as (λ b. same_key key l.key ≡ b
    → (if b then Some l.bytes else bytes_of ls key) ≡ Some bytes
    → document_of library key ≡ Some bytes) [
      | true ↦ λ s h.
          let here = All-head (WasFetched (Some library)) l ls all in
          fetched_is library key l.bytes
          (subst (λ a. IsFetched (Some library) a l.bytes) (sym (same_address key l.key s)) here)
          ∙ h
      | false ↦ λ s h.
          loaded_agrees library ls (All-tail (WasFetched (Some library)) l ls all) key bytes h
    ] refl e

-- of keys with one address the library has the same
same_document : (library : Library) (a b : Key) → same_key a b ≡ true
    → document_of library a ≡ document_of library b
same_document library a b e =
    ap (λ address. if_within DOCUMENT_LIMIT (bytes_at library address)) (same_address a b e)

gone_agrees : (library : Library) (keys : List Key) → All (HasNone library) keys → (key : Key)
    → list_any (same_key key) keys ≡ true → document_of library key ≡ None
gone_agrees library [] all key e = cc
gone_agrees library (k ∷ ks) all key e =
    elim (same_key key k) as (λ b. same_key key k ≡ b
    → (b || list_any (same_key key) ks) ≡ true → document_of library key ≡ None) [
      | true ↦ λ s h. same_document library key k s ∙ All-head (HasNone library) k ks all
      | false ↦ λ s h. gone_agrees library ks (All-tail (HasNone library) k ks all) key h
    ] refl e

agrees : (library : Library) (store : Stored) → IsLoadedFrom (Some library) store
    → HadRoom library store → AgreesWith library (docs store)
agrees library store from room = record {
  loaded = loaded_agrees library store.loaded from.loaded;
  gone = gone_agrees library store.gone room;
}

-- the lines that a command asks for are those of the library's whole tree
of_library : (command : Command) (library : Library) (store : Stored)
    (contents : List FetchedContent)
    → AgreesWith library (docs store) → root_address store ≡ root_of command
    → IsReady command (stored_tree store)
    → AreFetched (Some library) (contents_asked command (stored_tree store)) contents
    → LeavesChildren command library store
    → lines_asked command (bytes_in contents) (docs store) (stored_tree store)
    ≡ lines_asked command (contents_of library) (whole_docs library)
    (full library (root_of command))
unfolding stored_tree
of_library (Cut address view) library store contents h root ready fetched leaves =
    let tree = stored_tree store in
    let lines = ideal view nothing_absent tree in
    let given = contents_of library in
    ap (cut_text (bytes_in contents)) (left_out view (bytes_in contents) tree ready.loaded)
    ∙ same_cut (bytes_in contents) given lines (given_agree library lines contents fetched)
    ∙ ap (cut_text given) (sym (left_out view given tree ready.loaded))
    ∙ ap (cut_text given)
    (cut_is_full view (with_all (lacking given)) library (docs store) h (root_address store)
    ready.loaded leaves
    ∙ ap (λ a. ideal view (lacking given) (full library a)) root)
of_library (Tiles address) library store contents h root ready fetched leaves =
    ap listing
    (whole_is_full library (docs store) h (root_address store) ready.loaded
    ∙ ap (full library) root)
of_library (Meta address) library store contents h root ready fetched leaves =
    metadata_is_full library (docs store) h (root_address store) ready.loaded
    ∙ ap (λ a. metadata (whole_docs library) (full library a)) root

pub librarys : (command : Command) (library : Option Library) (store : Stored)
    (contents : List FetchedContent) → Loads command library store
    → IsReady command (stored_tree store)
    → AreFetched library (contents_asked command (stored_tree store)) contents
    → AreTheLibrarys command library store (bytes_in contents)
librarys command None store contents loads ready fetched = tt
librarys command (Some library) store contents loads ready fetched = λ room leaves.
    of_library command library store contents
    (agrees library store loads.from_library room) (rw loads.root_first refl) ready fetched leaves

-- a schema is refused for the cause that the library's whole tree has first
same_cause : (command : Command) (library : Library) (store : Stored)
    → AgreesWith library (docs store) → root_address store ≡ root_of command
    → IsReady command (stored_tree store)
    → schema_refused command (docs store) (stored_tree store)
    ≡ schema_refused command (whole_docs library) (full library (root_of command))
unfolding stored_tree
same_cause (Cut address view) library store h root ready = refl
same_cause (Tiles address) library store h root ready = refl
same_cause (Meta address) library store h root ready =
    first_cause_is_full library (docs store) h (root_address store) ready.loaded
    ∙ ap (λ a. first_cause (whole_docs library) (nodes_of (full library a))) root

pub refused_librarys : (command : Command) (library : Option Library) (store : Stored)
    (error : SchemaError) → Loads command library store → IsReady command (stored_tree store)
    → schema_refused command (docs store) (stored_tree store) ≡ Some error
    → IsTheLibrarysCause command library store error
refused_librarys command None store error loads ready refused = tt
refused_librarys command (Some library) store error loads ready refused = λ room.
    sym (same_cause command library store (agrees library store loads.from_library room)
    (rw loads.root_first refl) ready)
    ∙ refused
