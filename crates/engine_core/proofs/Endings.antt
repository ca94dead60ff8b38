-- A flight ends without bytes.
use Rattle.std.specs.Prelude.{if◌then◌else◌}
use Rattle.std.proofs.Common.{ℕ, ◌+◌, ◌≤◌, ◌<◌, ◌≡◌, Bool, true, false, ◌||◌, List, [], ◌∷◌, ◌++◌, length, map, length-append, refl, sym, ◌∙◌, ap, subst, arith}
use Rattle.std.specs.List.{list_any}
use Rattle.std.proofs.lemmas.Bool.{lt-ltb}
use Rattle.std.proofs.lemmas.List.{append-nil}
use Rattle.lists.specs.Rooms.{Roomy}
use Rattle.indexmap.specs.IndexSet.{spare}
use Rattle.tile_types.specs.declared.key.Key.{Key}
use Rattle.doc_store.specs.Docs.{docs_of, is_content}
use Rattle.doc_store.specs.Store as store
use Rattle.tile_cache.specs.Residents.{same_text}
use Rattle.tile_arena.specs.Standing.{ArenaParts}
use Rattle.view_notes.specs.Asking.{AreNotesOfEach}
use Rattle.engine_state.specs.declared.entry.Entry.{Entry}
use Rattle.engine_state.specs.declared.entry.Entry.TheVariants.{Absent, Failed, Starved}
use Rattle.engine_state.specs.declared.fault_count.FaultCount.{FaultCount}
use Rattle.engine_state.specs.declared.flight.Flight.{Flight}
use Rattle.engine_state.specs.declared.gone.Gone.{Gone}
use Rattle.engine_state.specs.State.{State, docs, documents}
use Rattle.engine_state.specs.Frames.{holdings, tree}
use Rattle.engine_state.specs.Loading.{flies, is_flight_of}
use Rattle.engine_state.specs.Allowed.{allowed, last_count, may_be_gone}
use Rattle.engine_state.specs.After.{after, fetch_ended, with_count, without_first}
use Rattle.engine_state.specs.Journal.{legal, replay}
use Rattle.engine_state.specs.Laws.{is_to_load}
use Rattle.engine_core.specs.declared.parts.Parts.{Parts}
use Rattle.engine_core.specs.Mirrors.{HasRoom, Lives, Mirrors, state_of}
use Rattle.engine_core.proofs.AbsentKeys.{addresses_more, contents_stay, documents_more, documents_stay}
use Rattle.engine_core.proofs.Sides.{holdings_are}
use Rattle.engine_core.proofs.Steps.{both, goes_on}

-- ---- what flies

-- what flies after a legal journal is to be loaded
abbrev pub FlyingIsToLoad : Type 0
FlyingIsToLoad = (before rest : List Entry) → legal (before ++ rest) ≡ true
    → (pass : ℕ) (key : Key) → flies (replay before) pass key ≡ true
    → is_to_load (replay before) key ≡ true

pub to_load : (p : Parts) (pass : ℕ) (key : Key) → FlyingIsToLoad → Lives p
    → flies (state_of p) pass key ≡ true → is_to_load (state_of p) key ≡ true
to_load p pass key law l f =
    law p.entries.items [] (ap legal (append-nil p.entries.items) ∙ l.is_legal) pass key f

-- a content that isn't absent in the state isn't among the absent addresses
pub not_among : (p : Parts) (a : List ℕ) → Lives p → (holdings (state_of p)).absent a ≡ false
    → list_any (same_text a) p.absent.keys ≡ false
not_among p a l e = (holdings_are p l).absent a ∙ e

-- the documents of the store are those of the state
pub store_docs : (p : Parts) → Lives p → docs (state_of p) ≡ store.docs p.arena.store
store_docs p l =
    let k = l.mirrors.knows in
    ap (λ loaded. docs_of loaded (documents (state_of p).absent)) (sym k.loaded_is)
    ∙ ap (docs_of p.arena.store.loaded) (sym k.documents_is)

-- ---- what is left once a flight has ended

-- the list without the first that passes is shorter by one
length_without : {A : Type 0} (test : A → Bool) (xs : List A) → list_any test xs ≡ true
    → length (without_first test xs) + 1 ≡ length xs
length_without test [] e = cc
length_without test (x ∷ xs) e =
    elim (test x) as (λ b. (b || list_any test xs) ≡ true
    → length (if b then xs else x ∷ without_first test xs) + 1 ≡ length (x ∷ xs)) [
      | true ↦ λ h. omega arith
      | false ↦ λ h. let ih = length_without test xs h in omega arith
    ] e

-- the flights that are left
pub record AreLeft (p : Parts) (pass : ℕ) (key : Key) (flying : List Flight) : Type 0 where
  pub mirror : flying ≡ (fetch_ended (state_of p) pass key).flying
  pub fewer : length flying + 1 ≡ length p.flying.items

pub left : (p : Parts) (pass : ℕ) (key : Key) (flying : List Flight) → Lives p
    → flies (state_of p) pass key ≡ true
    → flying ≡ without_first (is_flight_of pass key) p.flying.items
    → AreLeft p pass key flying
left p pass key flying l f e =
    let same = l.mirrors.fetches.flying_is in
    let there : list_any (is_flight_of pass key) p.flying.items ≡ true =
    ap (list_any (is_flight_of pass key)) same ∙ f in
    record {
      mirror = e ∙ ap (without_first (is_flight_of pass key)) same;
      fewer = ap (λ fs. length fs + 1) e
          ∙ length_without (is_flight_of pass key) p.flying.items there;
    }

-- some flight is there that ends
pub some_flies : (p : Parts) (pass : ℕ) (key : Key) → Lives p
    → flies (state_of p) pass key ≡ true → 0 < length p.flying.items
some_flies p pass key l f =
    let fewer = (left p pass key (without_first (is_flight_of pass key) p.flying.items) l f refl).fewer in
    omega arith

-- each part used one place at most
pub record UsesOne (p p' : Parts) : Type 0 where
  pub frames : p'.frames.items ≡ p.frames.items
  pub closed : p'.closed ≡ p.closed
  pub entries : p.entries.spare ≤ p'.entries.spare + 1
  pub attempts : p.attempts.spare ≤ p'.attempts.spare + 1
  pub squeezed : p.squeezed.spare ≤ p'.squeezed.spare + 1
  pub absent : spare p.absent ≤ spare p'.absent + 1
  pub store : p.arena.store.spare ≤ p'.arena.store.spare + 1

-- then there is room for the flights that are left
pub room_left : (p p' : Parts) → HasRoom 0 (length p.flying.items) p
    → length p'.flying.items + 1 ≡ length p.flying.items → UsesOne p p'
    → HasRoom 0 (length p'.flying.items) p'
room_left p p' r fewer u =
    let frames : length p'.frames.items ≡ length p.frames.items = ap length u.frames in
    let last : 0 + length p'.flying.items + length p'.frames.items + (if p.closed then 0 else 1)
    ≤ p'.entries.spare =
    omega (arith, r.entries, u.entries) in
    record {
      entries = subst (λ b. 0 + length p'.flying.items + length p'.frames.items
          + (if b then 0 else 1) ≤ p'.entries.spare) (sym u.closed) last;
      attempts = omega (arith, r.attempts, u.attempts);
      squeezed = omega (arith, r.squeezed, u.squeezed);
      absent = omega (arith, r.absent, u.absent);
      store = omega (arith, r.store, u.store);
    }

pub none_used : (n : ℕ) → n ≤ n + 1
none_used n = omega arith

-- ---- an attempt failed

-- the state in which one more attempt for the key has failed
abbrev tried : State → ℕ → Key → List FaultCount → State
tried s pass key faults = record (fetch_ended s pass key) {
  attempts = s.attempts ++ key ∷ [];
  faults = faults;
}

same_tree : (s : State) (pass : ℕ) (key : Key) (faults : List FaultCount)
    → tree (tried s pass key faults) ≡ tree s
unfolding tree
same_tree s pass key faults = refl

module _ (p : Parts) (entries : Roomy Entry) (flying : Roomy Flight) (attempts : Roomy Key)
    (pass : ℕ) (key : Key) where
  tried_lives : (e : Entry) (faults : List FaultCount) → Lives p
      → flies (state_of p) pass key ≡ true → allowed (state_of p) e ≡ true
      → after (state_of p) e ≡ tried (state_of p) pass key faults
      → entries.items ≡ p.entries.items ++ e ∷ [] → p.entries.spare ≤ entries.spare + 1
      → flying.items ≡ without_first (is_flight_of pass key) p.flying.items
      → attempts.items ≡ p.attempts.items ++ key ∷ [] → p.attempts.spare ≤ attempts.spare + 1
      → Lives (record p { entries = entries; flying = flying; attempts = attempts; filled = false })
  tried_lives e faults l f may state is spare_is flying_is attempts_is spare_was =
      let s = state_of p in
      let m = l.mirrors in
      let p' : Parts = record p {
        entries = entries;
        flying = flying;
        attempts = attempts;
        filled = false;
      } in
      let fs = left p pass key flying.items l f flying_is in
      let long : length entries.items ≡ length p.entries.items + 1 =
      ap length is ∙ length-append p.entries.items (e ∷ []) in
      goes_on p p' e l may is (ap (λ t. t.opened) state ∙ l.is_opened)
      (subst (λ t. Mirrors t p') (sym state) (record {
        closed = m.closed;
        looks = m.looks;
        views = m.views;
        shows = m.shows;
        knows = m.knows;
        fetches = record {
          flying_is = fs.mirror;
          attempts_is = attempts_is ∙ ap (λ ks. ks ++ key ∷ []) m.fetches.attempts_is;
          squeezed_is = m.fetches.squeezed_is;
        };
        noted = λ h. subst (AreNotesOfEach p.notes.items (map (λ seen. seen.view) s.views) (holdings s))
            (sym (same_tree s pass key faults)) (m.noted h);
        queues = record { order_is = m.queues.order_is; wants_are = λ h. cc };
      }))
      (room_left p p' l.room fs.fewer (record {
        frames = refl;
        closed = refl;
        entries = spare_is;
        attempts = spare_was;
        squeezed = none_used _;
        absent = none_used _;
        store = none_used _;
      }))
      (omega (arith, l.few_looks))

  pub starved_lives : Lives p → flies (state_of p) pass key ≡ true
      → entries.items ≡ p.entries.items ++ Starved pass key ∷ []
      → p.entries.spare ≤ entries.spare + 1
      → flying.items ≡ without_first (is_flight_of pass key) p.flying.items
      → attempts.items ≡ p.attempts.items ++ key ∷ [] → p.attempts.spare ≤ attempts.spare + 1
      → Lives (record p { entries = entries; flying = flying; attempts = attempts; filled = false })
  starved_lives l f is spare_is flying_is attempts_is spare_was =
      let s = state_of p in
      tried_lives (Starved pass key) s.faults l f (both s.opened _ l.is_opened f) refl
      is spare_is flying_is attempts_is spare_was

  pub failed_lives : (count : ℕ) → Lives p → flies (state_of p) pass key ≡ true
      → last_count (state_of p).faults pass < count
      → entries.items ≡ p.entries.items ++ Failed pass key count ∷ []
      → p.entries.spare ≤ entries.spare + 1
      → flying.items ≡ without_first (is_flight_of pass key) p.flying.items
      → attempts.items ≡ p.attempts.items ++ key ∷ [] → p.attempts.spare ≤ attempts.spare + 1
      → Lives (record p { entries = entries; flying = flying; attempts = attempts; filled = false })
  failed_lives count l f risen is spare_is flying_is attempts_is spare_was =
      let s = state_of p in
      tried_lives (Failed pass key count) (with_count pass count s.faults) l f
      (both s.opened _ l.is_opened
      (both (flies s pass key) _ f (lt-ltb (last_count s.faults pass) count risen))) refl
      is spare_is flying_is attempts_is spare_was

-- ---- nothing comes of a content

-- the set of absent addresses is that of the later parts, whose type no definition names
pub absent_content_lives : (p p' : Parts) (pass : ℕ) (key : Key) (why : Gone) → Lives p
    → flies (state_of p) pass key ≡ true → may_be_gone (state_of p) key why ≡ true
    → is_content key ≡ true
    → p' ≡ record p {
      entries = p'.entries;
      flying = p'.flying;
      absent = p'.absent;
      noted = false;
      filled = false;
    }
    → p'.entries.items ≡ p.entries.items ++ Absent pass key why ∷ []
    → p.entries.spare ≤ p'.entries.spare + 1
    → p'.flying.items ≡ without_first (is_flight_of pass key) p.flying.items
    → p'.absent.keys ≡ p.absent.keys ++ key.address ∷ [] → spare p.absent ≤ spare p'.absent + 1
    → Lives p'
absent_content_lives p p' pass key why l f gone c same is spare_is flying_is absent_is spare_was =
    let s = state_of p in
    let m = l.mirrors in
    let fs = left p pass key p'.flying.items l f flying_is in
    let long : length p'.entries.items ≡ length p.entries.items + 1 =
    ap length is ∙ length-append p.entries.items (Absent pass key why ∷ []) in
    goes_on p p' (Absent pass key why) l
    (both s.opened _ l.is_opened (both (flies s pass key) _ f gone)) is l.is_opened
    (subst (Mirrors (after s (Absent pass key why))) (sym same) (record {
      closed = m.closed;
      looks = m.looks;
      views = m.views;
      shows = m.shows;
      knows = record {
        root_is = m.knows.root_is;
        loaded_is = m.knows.loaded_is;
        documents_is = m.knows.documents_is ∙ sym (documents_stay s.absent key c);
        contents_is = absent_is ∙ ap (λ xs. xs ++ key.address ∷ []) m.knows.contents_is
            ∙ sym (addresses_more s.absent key c);
      };
      fetches = record {
        flying_is = fs.mirror;
        attempts_is = m.fetches.attempts_is;
        squeezed_is = m.fetches.squeezed_is;
      };
      noted = λ h. cc;
      queues = record { order_is = m.queues.order_is; wants_are = λ h. cc };
    }))
    (room_left p p' l.room fs.fewer (record {
      frames = ap (λ q. q.frames.items) same;
      closed = ap (λ q. q.closed) same;
      entries = spare_is;
      attempts = subst (λ q. p.attempts.spare ≤ q.attempts.spare + 1) (sym same) (none_used _);
      squeezed = subst (λ q. p.squeezed.spare ≤ q.squeezed.spare + 1) (sym same) (none_used _);
      absent = spare_was;
      store = subst (λ q. p.arena.store.spare ≤ q.arena.store.spare + 1) (sym same) (none_used _);
    }))
    (subst (λ q. q.looks ≤ length p'.entries.items) (sym same) (omega (arith, l.few_looks)))

-- ---- nothing comes of a document

pub absent_document_lives : (p : Parts) (entries : Roomy Entry) (flying : Roomy Flight)
    (arena : ArenaParts) (pass : ℕ) (key : Key) (why : Gone) → Lives p
    → flies (state_of p) pass key ≡ true → may_be_gone (state_of p) key why ≡ true
    → is_content key ≡ false
    → entries.items ≡ p.entries.items ++ Absent pass key why ∷ []
    → p.entries.spare ≤ entries.spare + 1
    → flying.items ≡ without_first (is_flight_of pass key) p.flying.items
    → arena.store.gone ≡ p.arena.store.gone ++ key ∷ []
    → arena.store.loaded ≡ p.arena.store.loaded
    → p.arena.store.spare ≤ arena.store.spare + 1
    → Lives (record p {
      entries = entries;
      flying = flying;
      arena = arena;
      noted = false;
      filled = false;
    })
absent_document_lives p entries flying arena pass key why l f gone c is spare_is flying_is gone_is loaded_is spare_was =
    let s = state_of p in
    let m = l.mirrors in
    let p' : Parts = record p {
      entries = entries;
      flying = flying;
      arena = arena;
      noted = false;
      filled = false;
    } in
    let fs = left p pass key flying.items l f flying_is in
    let long : length entries.items ≡ length p.entries.items + 1 =
    ap length is ∙ length-append p.entries.items (Absent pass key why ∷ []) in
    goes_on p p' (Absent pass key why) l
    (both s.opened _ l.is_opened (both (flies s pass key) _ f gone)) is l.is_opened
    (record {
      closed = m.closed;
      looks = m.looks;
      views = m.views;
      shows = m.shows;
      knows = record {
        root_is = m.knows.root_is;
        loaded_is = loaded_is ∙ m.knows.loaded_is;
        documents_is = gone_is ∙ ap (λ ks. ks ++ key ∷ []) m.knows.documents_is
            ∙ sym (documents_more s.absent key c);
        contents_is = m.knows.contents_is
            ∙ ap (map (λ k. k.address)) (sym (contents_stay s.absent key c));
      };
      fetches = record {
        flying_is = fs.mirror;
        attempts_is = m.fetches.attempts_is;
        squeezed_is = m.fetches.squeezed_is;
      };
      noted = λ h. cc;
      queues = record { order_is = m.queues.order_is; wants_are = λ h. cc };
    })
    (room_left p p' l.room fs.fewer (record {
      frames = refl;
      closed = refl;
      entries = spare_is;
      attempts = none_used _;
      squeezed = none_used _;
      absent = none_used _;
      store = spare_was;
    }))
    (omega (arith, l.few_looks))
