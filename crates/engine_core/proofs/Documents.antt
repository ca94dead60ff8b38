-- A document comes.
use Rattle.std.specs.Prelude.{if◌then◌else◌}
use Rattle.std.proofs.Common.{ℕ, ◌+◌, ◌≤◌, ◌↔◌, ◌≡◌, true, false, not, Some, Result, Ok, option_map, List, [], ◌∷◌, ◌++◌, length, length-append, slice_get, nat_le, refl, sym, ◌∙◌, ap, subst, arith, leb-true, le-leb}
use Rattle.std.specs.declared.alloc.AllocError.{AllocError}
use Rattle.cut_core.proofs.Bools.{and_left, and_right}
use Rattle.lists.specs.Rooms.{Roomy}
use Rattle.tile_types.specs.declared.key.Key.{Key}
use Rattle.doc_store.specs.declared.added.Added.{Added}
use Rattle.doc_store.specs.declared.limits.TheConstants.{DOCUMENT_LIMIT, STORE_BYTES, STORE_DOCUMENTS}
use Rattle.doc_store.specs.Docs.{Loaded, is_content}
use Rattle.doc_store.specs.Store.{IsFull, total_bytes, with_document}
use Rattle.tile_arena.specs.Standing.{ArenaParts}
use Rattle.engine_state.specs.declared.entry.Entry.{Entry}
use Rattle.engine_state.specs.declared.entry.Entry.TheVariants.{Absent, DocumentArrived}
use Rattle.engine_state.specs.declared.flight.Flight.{Flight}
use Rattle.engine_state.specs.declared.gone.Gone.TheVariants.{StoreFull}
use Rattle.engine_state.specs.Allowed.{may_be_gone}
use Rattle.engine_state.proofs.Rooms.{room_full}
use Rattle.engine_state.specs.Loading.{flies, is_flight_of}
use Rattle.engine_state.specs.Room.{has_room}
use Rattle.engine_state.specs.After.{without_first}
use Rattle.engine_core.specs.declared.parts.Parts.{Parts}
use Rattle.engine_core.specs.Arriving.{document_entry}
use Rattle.engine_core.specs.Mirrors.{Knows, Lives, state_of}
use Rattle.engine_core.proofs.Endings.{left, none_used, room_left}
use Rattle.engine_core.proofs.Steps.{both, goes_on}

-- the first of a list stays the first behind one more
first_stays : (loaded : List Loaded) (l : Loaded) (root : List ℕ)
    → option_map (λ l. l.key.address) (slice_get loaded 0) ≡ Some root
    → option_map (λ l. l.key.address) (slice_get (loaded ++ l ∷ []) 0) ≡ Some root
first_stays [] l root e = cc
first_stays (x ∷ xs) l root e = e

pub document_lives : (p : Parts) (entries : Roomy Entry) (flying : Roomy Flight)
    (arena : ArenaParts) (pass : ℕ) (key : Key) (bytes : List ℕ) → Lives p
    → flies (state_of p) pass key ≡ true → is_content key ≡ false
    → has_room (state_of p).loaded (length bytes) ≡ true
    → entries.items ≡ p.entries.items ++ DocumentArrived pass key bytes ∷ []
    → p.entries.spare ≤ entries.spare + 1
    → flying.items ≡ without_first (is_flight_of pass key) p.flying.items
    → arena.store ≡ with_document p.arena.store key bytes
    → Lives (record p {
      entries = entries;
      flying = flying;
      arena = arena;
      noted = false;
      filled = false;
    })
document_lives p entries flying arena pass key bytes l f c room is spare_is flying_is store_is =
    let s = state_of p in
    let m = l.mirrors in
    let e = DocumentArrived pass key bytes in
    let p' : Parts = record p {
      entries = entries;
      flying = flying;
      arena = arena;
      noted = false;
      filled = false;
    } in
    let fs = left p pass key flying.items l f flying_is in
    let long : length entries.items ≡ length p.entries.items + 1 =
    ap length is ∙ length-append p.entries.items (e ∷ []) in
    let spare_was : arena.store.spare ≡ p.arena.store.spare = ap (λ store. store.spare) store_is in
    goes_on p p' e l
    (both s.opened _ l.is_opened
    (both (not (is_content key)) _ (ap not c) (both (flies s pass key) _ f room))) is l.is_opened
    (record {
      closed = m.closed;
      looks = m.looks;
      views = m.views;
      shows = m.shows;
      knows = record {
        root_is = first_stays s.loaded (record { key = key; bytes = bytes }) s.root m.knows.root_is;
        loaded_is = ap (λ store. store.loaded) store_is
            ∙ ap (λ ls. ls ++ record { key = key; bytes = bytes } ∷ []) m.knows.loaded_is;
        documents_is = ap (λ store. store.gone) store_is ∙ m.knows.documents_is;
        contents_is = m.knows.contents_is;
      };
      fetches = record {
        flying_is = fs.mirror;
        attempts_is = m.fetches.attempts_is;
        squeezed_is = m.fetches.squeezed_is;
      };
      noted = λ h. cc;
      queues = record { order_is = m.queues.order_is; wants_are = λ h. cc };
    })
    (room_left p p' l.room fs.fewer (record {
      frames = refl;
      closed = refl;
      entries = spare_is;
      attempts = none_used _;
      squeezed = none_used _;
      absent = none_used _;
      store = omega arith;
    }))
    (omega (arith, l.few_looks))

-- ---- whether there is room

pub some_room : (p : Parts) (bytes : List ℕ) (result : Result Added AllocError) → Lives p
    → result ≡ Ok Added.Kept
    → ((result ≡ Ok Added.Full) ↔ IsFull p.arena.store (length bytes))
    → has_room (state_of p).loaded (length bytes) ≡ true
some_room p bytes result l kept full =
    let s = state_of p in
    let same = l.mirrors.knows.loaded_is in
    elim (has_room p.arena.store.loaded (length bytes)) as (λ b.
    has_room p.arena.store.loaded (length bytes) ≡ b → has_room s.loaded (length bytes) ≡ true) [
      | true ↦ λ e. ap (λ ls. has_room ls (length bytes)) (sym same) ∙ e
      | false ↦ λ e.
          let is : result ≡ Ok Added.Full = full.1 ((room_full p.arena.store (length bytes)).0 e) in
          let both : Ok Added.Kept ≡ Ok Added.Full = sym kept ∙ is in
          cc
    ] refl

pub no_room : (p : Parts) (bytes : List ℕ) (result : Result Added AllocError) → Lives p
    → result ≡ Ok Added.Full
    → ((result ≡ Ok Added.Full) ↔ IsFull p.arena.store (length bytes))
    → has_room (state_of p).loaded (length bytes) ≡ false
no_room p bytes result l is full =
    ap (λ ls. has_room ls (length bytes)) (sym l.mirrors.knows.loaded_is)
    ∙ (room_full p.arena.store (length bytes)).1 (full.0 is)

-- where there is no room for so many bytes, there is none for more
no_room_for_more : (loaded : List Loaded) (few many : ℕ) → few ≤ many
    → has_room loaded few ≡ false → has_room loaded many ≡ false
no_room_for_more loaded few many h e =
    elim (has_room loaded many) as (λ b. has_room loaded many ≡ b → b ≡ false) [
      | true ↦ λ t.
          let one = leb-true _ _ (and_left _ _ t) in
          let two = leb-true _ _ (and_right (nat_le (length loaded + 1) STORE_DOCUMENTS) _ t) in
          let less : has_room loaded few ≡ true =
          both (nat_le (length loaded + 1) STORE_DOCUMENTS) _ (le-leb _ _ one)
          (le-leb (total_bytes loaded + few) STORE_BYTES (omega (arith, two, h))) in
          cc
      | false ↦ λ t. refl
    ] refl

pub may_be_full : (p : Parts) (key : Key) (bytes : List ℕ) → is_content key ≡ false
    → length bytes ≤ DOCUMENT_LIMIT → has_room (state_of p).loaded (length bytes) ≡ false
    → may_be_gone (state_of p) key StoreFull ≡ true
may_be_full p key bytes c within none =
    both (not (is_content key)) _ (ap not c)
    (ap not (no_room_for_more (state_of p).loaded (length bytes) DOCUMENT_LIMIT within none))

-- an arena of the same store
pub same_store : (p : Parts) (arena : ArenaParts) → Lives p → arena.store ≡ p.arena.store
    → Lives (record p { arena = arena })
same_store p arena l same =
    let m = l.mirrors in
    record {
      is_legal = l.is_legal;
      is_opened = l.is_opened;
      mirrors = record {
        closed = m.closed;
        looks = m.looks;
        views = m.views;
        shows = m.shows;
        knows = subst (λ store. Knows (state_of p).root (state_of p).loaded (state_of p).absent store
            p.absent.keys) (sym same) m.knows;
        fetches = m.fetches;
        noted = m.noted;
        queues = m.queues;
      };
      room = record {
        entries = l.room.entries;
        attempts = l.room.attempts;
        squeezed = l.room.squeezed;
        absent = l.room.absent;
        store = subst (λ store. length p.flying.items ≤ store.spare) (sym same) l.room.store;
      };
      few_looks = l.few_looks;
    }

-- ---- what is noted

pub noted_document : (p : Parts) (pass : ℕ) (key noted : Key) (bytes kept : List ℕ)
    → has_room (state_of p).loaded (length bytes) ≡ true → noted ≡ key → kept ≡ bytes
    → DocumentArrived pass noted kept ≡ document_entry (state_of p) pass key bytes
noted_document p pass key noted bytes kept room n k =
    ap (λ x. DocumentArrived pass x kept) n ∙ ap (DocumentArrived pass key) k
    ∙ ap (λ b. if b then DocumentArrived pass key bytes else Absent pass key StoreFull) (sym room)

pub noted_full : (p : Parts) (pass : ℕ) (key noted : Key) (bytes : List ℕ)
    → has_room (state_of p).loaded (length bytes) ≡ false → noted ≡ key
    → Absent pass noted StoreFull ≡ document_entry (state_of p) pass key bytes
noted_full p pass key noted bytes none n =
    ap (λ x. Absent pass x StoreFull) n
    ∙ ap (λ b. if b then DocumentArrived pass key bytes else Absent pass key StoreFull) (sym none)
