-- What a store keeps after a document is added, or a key is marked as absent.
use Rattle.std.specs.Prelude.{IsTrue, if◌then◌else◌, not, is_none}
use Rattle.std.proofs.Common.{ℕ, ◌+◌, ◌≤◌, ◌<◌, ◌≡◌, inl, inr, true≢false, Bool, true, false, ◌&&◌}
use Rattle.std.proofs.Common.{◌||◌, cond, Option, Some, None, List, [], ◌∷◌, ◌++◌, length, map}
use Rattle.std.proofs.Common.{refl, sym, ◌∙◌, ap, arith, length-append, subst, IfSome}
use Rattle.std.specs.List.{list_any, AllByRecursion}
use Rattle.std.specs.Map.{lookup}
use Rattle.std.proofs.lemmas.List.{length-map, map-append}
use Rattle.std.proofs.lemmas.List.Folds.{list_any-append}
use Rattle.indexmap.specs.IndexSet.{insert_key}
use Rattle.tile_types.specs.declared.key.Key.{Key}
use Rattle.tile_types.specs.Keys.{same_key}
use Rattle.tile_types.proofs.Keys.{key_turned}
use Rattle.tile_uri.specs.Addresses.{IsAddress}
use Rattle.doc_store.specs.declared.limits.TheConstants.{STORE_BYTES, STORE_DOCUMENTS}
use Rattle.doc_store.specs.Docs.{Docs, Loaded, bytes_of, docs_of, is_unread}
use Rattle.doc_store.specs.Store.{Stored, total_bytes, with_document, IsFull}
use Rattle.doc_store.specs.Kept.{Entry, AreKept, loaded_of, IsRead, IsNotGone}
use Rattle.doc_store.proofs.Numbers.{document_stays}

-- ---- an unread key

abbrev pub unread_in : List Entry → List Key → Key → Bool
unread_in es gone key = is_unread (docs_of (map loaded_of es) gone) key

pub not_gone : (docs : Docs) (key : Key) → is_unread docs key ≡ true → docs.gone key ≡ false
not_gone docs key e =
    elim (docs.gone key) as (λ b. (not b && is_none (docs.loaded key)) ≡ true → b ≡ false) [
      | true ↦ λ h. cc
      | false ↦ λ h. refl
    ] e

none_there : {A : Type 0} (o : Option A) → is_none o ≡ true → o ≡ None
none_there None e = refl
none_there (Some a) e = cc

not_loaded : (docs : Docs) (key : Key) → is_unread docs key ≡ true → docs.loaded key ≡ None
not_loaded docs key e =
    elim (docs.gone key) as (λ b. (not b && is_none (docs.loaded key)) ≡ true
    → docs.loaded key ≡ None) [
      | true ↦ λ h. cc
      | false ↦ λ h. none_there (docs.loaded key) h
    ] e

-- a key that isn't loaded has no entry
no_entry : (es : List Entry) (key : Key) → bytes_of (map loaded_of es) key ≡ None
    → lookup (same_key key) es ≡ None
no_entry [] key e = refl
no_entry (x ∷ xs) key e =
    elim (same_key key x.0) as (λ b.
    (if b then Some x.1.bytes else bytes_of (map loaded_of xs) key) ≡ None
    → cond b (Some x.1) (lookup (same_key key) xs) ≡ None) [
      | true ↦ λ h. cc
      | false ↦ λ h. no_entry xs key h
    ] e

pub no_entry_yet : (es : List Entry) (gone : List Key) (key : Key) (is : Key → Bool)
    → is ≡ same_key key → unread_in es gone key ≡ true → lookup is es ≡ None
no_entry_yet es gone key is same e =
    ap (λ p. lookup p es) same
    ∙ no_entry es key (not_loaded (docs_of (map loaded_of es) gone) key e)

-- ---- one more document

one_more : {A : Type 0} (P : A → Type 0) (xs : List A) (x : A) → AllByRecursion P xs → P x
    → AllByRecursion P (xs ++ x ∷ [])
one_more P [] x all p = (p, tt)
one_more P (y ∷ ys) x all p = (all.0, one_more P ys x all.1 p)

total_more : (ls : List Loaded) (l : Loaded)
    → total_bytes (ls ++ l ∷ []) ≡ total_bytes ls + length l.bytes
total_more [] l = omega arith
total_more (x ∷ xs) l = omega (arith, total_more xs l)

loaded_more : (es : List Entry) (e : Entry)
    → map loaded_of (es ++ e ∷ []) ≡ map loaded_of es ++ loaded_of e ∷ []
loaded_more es e = map-append loaded_of es (e ∷ [])

are_kept_with : (es : List Entry) (gone : List Key) (total : ℕ) (e : Entry)
    → AreKept es gone total → IsRead e → IsNotGone gone e
    → total + length e.1.bytes ≤ STORE_BYTES → length es + 1 ≤ STORE_DOCUMENTS
    → AreKept (es ++ e ∷ []) gone (total + length e.1.bytes)
are_kept_with es gone total e k read apart bytes documents = record {
  read = one_more IsRead es e k.read read;
  apart = one_more (IsNotGone gone) es e k.apart apart;
  total_is =
      ap (λ n. n + length e.1.bytes) k.total_is
      ∙ sym (ap total_bytes (loaded_more es e) ∙ total_more (map loaded_of es) (loaded_of e));
  bytes_fit = bytes;
  documents_fit = omega (arith, length-append es (e ∷ []));
  some = omega (arith, length-append es (e ∷ []));
  root = subst (λ o. IfSome o (λ entry. IsAddress entry.0.address))
      (sym (document_stays es e 0 k.some)) k.root;
}

-- where the store isn't full there is room
room_left : (store : Stored) (more : ℕ) (full : Bool) → (IsFull store more → IsTrue full)
    → full ≡ false
    → (total_bytes store.loaded + more ≤ STORE_BYTES) × (length store.loaded + 1 ≤ STORE_DOCUMENTS)
room_left store more full told e =
    let never : IsFull store more → ⊥ = λ f. true≢false (sym (told f) ∙ e) in (
      grind (arith, λ (h : STORE_BYTES < total_bytes store.loaded + more). never (inr h)),
      grind (arith, λ (h : STORE_DOCUMENTS < length store.loaded + 1). never (inl h)),
    )

pub kept_after : (es : List Entry) (store : Stored) (gone : List Key) (total : ℕ) (e : Entry)
    (full : Bool) → AreKept es gone total → store.loaded ≡ map loaded_of es
    → unread_in es gone e.0 ≡ true → IsRead e
    → (IsFull store (length e.1.bytes) → IsTrue full) → full ≡ false
    → AreKept (es ++ e ∷ []) gone (total + length e.1.bytes)
kept_after es store gone total e full k loaded unread read told is =
    let room = room_left store (length e.1.bytes) full told is in
    let counted : length store.loaded ≡ length es = ap length loaded ∙ length-map es loaded_of in
    are_kept_with es gone total e k read (not_gone (docs_of (map loaded_of es) gone) e.0 unread)
    (omega (arith, room.0, k.total_is, ap total_bytes loaded)) (omega (arith, room.1, counted))

-- the store is as before, with one more document
pub added_view : (es es' : List Entry) (gone : List Key) (spare : ℕ) (e : Entry)
    → es' ≡ es ++ e ∷ [] → (store : Stored)
    → record { loaded = map loaded_of es; gone = gone; spare = spare } ≡ store
    → record { loaded = map loaded_of es'; gone = gone; spare = spare }
    ≡ with_document store e.0 e.1.bytes
added_view es es' gone spare e more store is =
    ap (λ ls. record { loaded = ls; gone = gone; spare = spare })
    (ap (map loaded_of) more ∙ loaded_more es e)
    ∙ ap (λ s. with_document s e.0 e.1.bytes) is

-- ---- one more absent key

-- a key that isn't loaded differs from those that are
others : (es : List Entry) (gone : List Key) (key : Key) → AllByRecursion (IsNotGone gone) es
    → bytes_of (map loaded_of es) key ≡ None → AllByRecursion (IsNotGone (gone ++ key ∷ [])) es
others [] gone key all e = tt
others (x ∷ xs) gone key all e =
    elim (same_key key x.0) as (λ b. same_key key x.0 ≡ b
    → (if b then Some x.1.bytes else bytes_of (map loaded_of xs) key) ≡ None
    → AllByRecursion (IsNotGone (gone ++ key ∷ [])) (x ∷ xs)) [
      | true ↦ λ s h. cc
      | false ↦ λ s h. (
        list_any-append (same_key x.0) gone (key ∷ [])
            ∙ ap (λ b. b || list_any (same_key x.0) (key ∷ [])) all.0
            ∙ ap (λ b. b || false) (key_turned key x.0 s),
        others xs gone key all.1 h,
      )
    ] refl e

pub are_kept_without : (es : List Entry) (gone : List Key) (total : ℕ) (key : Key)
    → AreKept es gone total → unread_in es gone key ≡ true → AreKept es (gone ++ key ∷ []) total
are_kept_without es gone total key k unread = record {
  read = k.read;
  apart =
      others es gone key k.apart (not_loaded (docs_of (map loaded_of es) gone) key unread);
  total_is = k.total_is;
  bytes_fit = k.bytes_fit;
  documents_fit = k.documents_fit;
  some = k.some;
  root = k.root;
}

-- an unread key comes last
pub marked : (eq : Key → Key → Bool) → ((a : Key) → eq a ≡ same_key a) → (es : List Entry)
    (gone : List Key) (key : Key) → unread_in es gone key ≡ true
    → insert_key eq gone key ≡ gone ++ key ∷ []
marked eq same es gone key unread =
    ap (λ b. if b then gone else gone ++ key ∷ [])
    (ap (λ p. list_any p gone) (same key)
    ∙ not_gone (docs_of (map loaded_of es) gone) key unread)
