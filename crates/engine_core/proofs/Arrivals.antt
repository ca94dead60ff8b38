-- A content comes.
use Rattle.std.specs.Prelude.{if◌then◌else◌}
use Rattle.std.proofs.Common.{ℕ, ◌+◌, ◌≤◌, ◌<◌, ◌≡◌, Bool, true, false, not, List, [], ◌∷◌, ◌++◌, length, length-append, map, nat_le, refl, sym, ◌∙◌, ap, subst, arith, le-leb}
use Rattle.std.specs.Cmp.Lexicographic.{pointwise}
use Rattle.std.proofs.lemmas.Bool.{lt-leb}
use Rattle.lists.specs.Rooms.{Roomy}
use Rattle.tile_types.specs.declared.key.Key.{Key}
use Rattle.tile_types.specs.declared.key.Kind.{Kind}
use Rattle.tile_types.specs.declared.key.Kind.TheVariants.{Content, Tileset, Subtree}
use Rattle.tile_types.specs.Keys.{same_kind}
use Rattle.doc_store.specs.Docs.{is_content}
use Rattle.content_digest.specs.Facts.{facts_of}
use Rattle.cut_core.specs.Visits.{content_key}
use Rattle.tile_cache.specs.Kept.{CacheState, resident}
use Rattle.tile_cache.specs.Pins.{SamePins}
use Rattle.tile_cache.specs.Residents.{has_address, same_text, without}
use Rattle.tile_cache.specs.Room.{RefusesAdmission, bytes_held, evicted_by, is_held}
use Rattle.tile_cache.specs.declared.error.AdmitError.{AdmitError}
use Rattle.tile_cache.specs.declared.error.AdmitError.TheVariants as refused
use Rattle.tile_cache.proofs.Texts.{text_refl}
use Rattle.view_notes.specs.Asking.{AreNotesOfEach}
use Rattle.view_notes.specs.Follows.{Noted}
use Rattle.view_notes.specs.Keeping.{any_keeps}
use Rattle.engine_state.specs.declared.entry.Entry.{Entry}
use Rattle.engine_state.specs.declared.entry.Entry.TheVariants.{ContentArrived, Squeezed}
use Rattle.engine_state.specs.declared.flight.Flight.{Flight}
use Rattle.engine_state.specs.declared.resident.Resident.{Resident}
use Rattle.engine_state.specs.State.{State}
use Rattle.engine_state.specs.Frames.{holdings, tree}
use Rattle.engine_state.specs.Frames as frames
use Rattle.engine_state.specs.Loading.{flies, is_flight_of}
use Rattle.engine_state.specs.Room.{evicted, fits}
use Rattle.engine_state.specs.Room as room
use Rattle.engine_state.specs.After.{after, without_first}
use Rattle.engine_state.specs.Laws.{known}
use Rattle.engine_state.proofs.Rooms.{address_known, without_known}
use Rattle.engine_core.specs.declared.parts.Parts.{Parts}
use Rattle.engine_core.specs.Arriving.{content_entry}
use Rattle.engine_core.specs.Mirrors.{KnowsRoom, Lives, Shows, state_of}
use Rattle.engine_core.proofs.Endings.{left, none_used, room_left}
use Rattle.engine_core.proofs.Rooms.{ResidentsArePresent, makes_room}
use Rattle.engine_core.proofs.Steps.{both, goes_on}

texts_alike : (xs : List (List ℕ)) → pointwise same_text xs xs ≡ true
texts_alike [] = refl
texts_alike (x ∷ xs) = both (same_text x x) _ (text_refl x) (texts_alike xs)

-- a content's key is that of its address
pub content_is : (key : Key) → is_content key ≡ true → key ≡ content_key key.address
content_is key c = by key.kind key.address c
  where
    by : (kind : Kind) (address : List ℕ) → same_kind kind Content ≡ true
        → record { kind = kind; address = address } ≡ content_key address
    by Content address e = refl
    by Tileset address e = cc
    by (Subtree octree levels contents) address e = cc

-- what is squeezed changes no tree
same_tree : (s : State) (pass : ℕ) (a : List ℕ) (size : ℕ)
    → tree (after s (Squeezed pass a size)) ≡ tree s
unfolding tree
same_tree s pass a size = refl

module _ (p : Parts) (entries : Roomy Entry) (flying : Roomy Flight) (pass : ℕ) (a : List ℕ) where
  squeezed_lives : (squeezed : Roomy Key) (cache : CacheState) (size : ℕ) → cache ≡ p.cache → Lives p
      → flies (state_of p) pass (content_key a) ≡ true → fits (state_of p) size ≡ false
      → entries.items ≡ p.entries.items ++ Squeezed pass a size ∷ []
      → p.entries.spare ≤ entries.spare + 1
      → flying.items ≡ without_first (is_flight_of pass (content_key a)) p.flying.items
      → squeezed.items ≡ p.squeezed.items ++ content_key a ∷ []
      → p.squeezed.spare ≤ squeezed.spare + 1
      → Lives (record p {
        entries = entries;
        flying = flying;
        squeezed = squeezed;
        cache = cache;
        filled = false;
      })
  squeezed_lives squeezed cache size same l f fit is spare_is flying_is squeezed_is spare_was =
      let s = state_of p in
      let m = l.mirrors in
      let key = content_key a in
      let p' : Parts = record p {
        entries = entries;
        flying = flying;
        squeezed = squeezed;
        cache = cache;
        filled = false;
      } in
      let fs = left p pass key flying.items l f flying_is in
      let long : length entries.items ≡ length p.entries.items + 1 =
      ap length is ∙ length-append p.entries.items (Squeezed pass a size ∷ []) in
      goes_on p p' (Squeezed pass a size) l
      (both s.opened _ l.is_opened (both (flies s pass key) _ f (ap not fit))) is l.is_opened
      (record {
        closed = m.closed;
        looks = m.looks;
        views = m.views;
        shows = subst (Shows s.frames s.residents s.budget p.frames.items) (sym same) m.shows;
        knows = m.knows;
        fetches = record {
          flying_is = fs.mirror;
          attempts_is = m.fetches.attempts_is;
          squeezed_is = squeezed_is ∙ ap (λ ks. ks ++ key ∷ []) m.fetches.squeezed_is;
        };
        noted = λ h. subst
            (AreNotesOfEach p.notes.items (map (λ seen. seen.view) s.views) (holdings s))
            (sym (same_tree s pass a size)) (m.noted h);
        queues = record { order_is = m.queues.order_is; wants_are = λ h. cc };
      })
      (room_left p p' l.room fs.fewer (record {
        frames = refl;
        closed = refl;
        entries = spare_is;
        attempts = none_used _;
        squeezed = spare_was;
        absent = none_used _;
        store = none_used _;
      }))
      (omega (arith, l.few_looks))

  arrived_lives : (cache : CacheState) (content : List ℕ) (out : List (List ℕ)) → Lives p
      → flies (state_of p) pass (content_key a) ≡ true → fits (state_of p) (length content) ≡ true
      → out ≡ evicted (state_of p) (length content)
      → entries.items ≡ p.entries.items
      ++ ContentArrived pass a (length content) (facts_of content).digest out ∷ []
      → p.entries.spare ≤ entries.spare + 1
      → flying.items ≡ without_first (is_flight_of pass (content_key a)) p.flying.items
      → cache.residents ≡ resident a content ∷ without out p.cache.residents
      → SamePins p.cache.pins cache.pins → cache.budget ≡ p.cache.budget
      → Lives (record p {
        entries = entries;
        flying = flying;
        cache = cache;
        noted = false;
        filled = false;
      })
  arrived_lives cache content out l f fit out_is is spare_is flying_is residents_are pins_are budget_is =
      let s = state_of p in
      let m = l.mirrors in
      let key = content_key a in
      let size = length content in
      let e : Entry = ContentArrived pass a size (facts_of content).digest out in
      let came : Resident = record { address = a; facts = facts_of content } in
      let p' : Parts = record p {
        entries = entries;
        flying = flying;
        cache = cache;
        noted = false;
        filled = false;
      } in
      let fs = left p pass key flying.items l f flying_is in
      let long : length entries.items ≡ length p.entries.items + 1 =
      ap length is ∙ length-append p.entries.items (e ∷ []) in
      goes_on p p' e l
      (both s.opened _ l.is_opened (both (flies s pass key) _ f (both (fits s size) _ fit
      (ap (pointwise same_text out) (sym out_is) ∙ texts_alike out)))) is l.is_opened
      (record {
        closed = m.closed;
        looks = m.looks;
        views = m.views;
        shows = record {
          held_is = m.shows.held_is;
          residents_is = ap (λ rs. came ∷ room.without out rs) m.shows.residents_is
              ∙ ap (λ rs. came ∷ rs) (without_known out p.cache.residents)
              ∙ ap (map known) (sym residents_are);
          pins = record { same = λ x. pins_are.same x ∙ m.shows.pins.same x };
          budget_is = budget_is ∙ m.shows.budget_is;
          short = m.shows.short;
        };
        knows = m.knows;
        fetches = record {
          flying_is = fs.mirror;
          attempts_is = m.fetches.attempts_is;
          squeezed_is = m.fetches.squeezed_is;
        };
        noted = λ h. cc;
        queues = record { order_is = m.queues.order_is; wants_are = λ h. cc };
      })
      (room_left p p' l.room fs.fewer (record {
        frames = refl;
        closed = refl;
        entries = spare_is;
        attempts = none_used _;
        squeezed = none_used _;
        absent = none_used _;
        store = none_used _;
      }))
      (omega (arith, l.few_looks))

-- ---- what the cache answers

-- what isn't resident in the state isn't in the cache
pub not_resident : (p : Parts) (a : List ℕ) → Lives p
    → frames.has_address (state_of p).residents a ≡ false → has_address p.cache.residents a ≡ false
not_resident p a l e =
    sym (address_known p.cache.residents a)
    ∙ ap (λ rs. frames.has_address rs a) (sym l.mirrors.shows.residents_is) ∙ e

-- what is squeezed would pass the budget
pub passes_budget : (held size budget : ℕ) (e : AdmitError) (bytes count : ℕ)
    → e ≡ refused.Squeezed bytes count → RefusesAdmission held size budget e
    → budget < held + size
passes_budget held size budget e bytes count is r =
    (subst (RefusesAdmission held size budget) is r).2

-- the cache asks the notes of the views
abbrev stays : Parts → List Noted → List ℕ → Bool
stays p notes = is_held p.cache.pins (any_keeps notes)

abbrev cache_fits : Parts → List Noted → List ℕ → Bool
cache_fits p notes content =
    nat_le (bytes_held (stays p notes) p.cache.residents + length content) p.cache.budget

module _ (p : Parts) (entries : Roomy Entry) (flying : Roomy Flight) (cache : CacheState) (key : Key)
    (noted : List ℕ) (pass size : ℕ) (content shared : List ℕ) (notes : List Noted) where
  fit_is : ResidentsArePresent → Lives p → KnowsRoom (length content) p → notes ≡ p.notes.items
      → shared ≡ content → fits (state_of p) (length content) ≡ cache_fits p notes shared
  fit_is law l k notes_are shared_is =
      sym (makes_room p (length content) law l k).fit
      ∙ ap (λ ns. cache_fits p ns content) (sym notes_are)
      ∙ ap (cache_fits p notes) (sym shared_is)

  pub squeezed_goes : (squeezed : Roomy Key) (flown : Key) → ResidentsArePresent → Lives p
      → KnowsRoom (length content) p → flies (state_of p) pass key ≡ true → is_content key ≡ true
      → noted ≡ key.address → size ≡ length content → shared ≡ content → notes ≡ p.notes.items
      → p.cache.budget < bytes_held (stays p notes) p.cache.residents + length shared
      → cache ≡ p.cache
      → entries.items ≡ p.entries.items ++ Squeezed pass noted size ∷ []
      → p.entries.spare ≤ entries.spare + 1
      → flying.items ≡ without_first (is_flight_of pass key) p.flying.items
      → flown ≡ key → squeezed.items ≡ p.squeezed.items ++ flown ∷ []
      → p.squeezed.spare ≤ squeezed.spare + 1
      → Lives (record p {
        entries = entries;
        flying = flying;
        squeezed = squeezed;
        cache = cache;
        filled = false;
      }) × (entries.items
      ≡ p.entries.items ++ content_entry (state_of p) pass key content ∷ [])
  squeezed_goes squeezed flown law l k f c noted_is size_is shared_is notes_are over still is spare_is flying_is flown_is squeezed_is spare_was =
      let s = state_of p in
      let a = key.address in
      let n = length content in
      let mine : key ≡ content_key a = content_is key c in
      let none : fits s n ≡ false =
      fit_is law l k notes_are shared_is ∙ lt-leb _ _ over in
      let entry : entries.items ≡ p.entries.items ++ Squeezed pass a n ∷ [] =
      is ∙ ap (λ x. p.entries.items ++ Squeezed pass x size ∷ []) noted_is
      ∙ ap (λ x. p.entries.items ++ Squeezed pass a x ∷ []) size_is in (
        squeezed_lives p entries flying pass a squeezed cache n still l
            (ap (flies s pass) (sym mine) ∙ f) none entry spare_is
            (flying_is ∙ ap (λ x. without_first (is_flight_of pass x) p.flying.items) mine)
            (squeezed_is ∙ ap (λ x. p.squeezed.items ++ x ∷ []) (flown_is ∙ mine)) spare_was,
        entry
            ∙ ap (λ b. p.entries.items
            ++ (if b then ContentArrived pass a n (facts_of content).digest (evicted s n)
            else Squeezed pass a n) ∷ []) (sym none),
      )

  pub arrived_goes : (digest : List ℕ) (out : List (List ℕ)) → ResidentsArePresent → Lives p
      → KnowsRoom (length content) p → flies (state_of p) pass key ≡ true → is_content key ≡ true
      → noted ≡ key.address → size ≡ length content → digest ≡ (facts_of content).digest
      → shared ≡ content → notes ≡ p.notes.items
      → bytes_held (stays p notes) p.cache.residents + length shared ≤ p.cache.budget
      → out ≡ evicted_by (stays p notes) p.cache.budget p.cache.residents (length shared)
      → cache.residents ≡ resident key.address shared ∷ without out p.cache.residents
      → SamePins p.cache.pins cache.pins → cache.budget ≡ p.cache.budget
      → entries.items ≡ p.entries.items ++ ContentArrived pass noted size digest out ∷ []
      → p.entries.spare ≤ entries.spare + 1
      → flying.items ≡ without_first (is_flight_of pass key) p.flying.items
      → Lives (record p {
        entries = entries;
        flying = flying;
        cache = cache;
        noted = false;
        filled = false;
      }) × (entries.items
      ≡ p.entries.items ++ content_entry (state_of p) pass key content ∷ [])
  arrived_goes digest out law l k f c noted_is size_is digest_is shared_is notes_are within out_is residents_are pins_are budget_is is spare_is flying_is =
      let s = state_of p in
      let a = key.address in
      let n = length content in
      let mine : key ≡ content_key a = content_is key c in
      let fit : fits s n ≡ true =
      fit_is law l k notes_are shared_is ∙ le-leb _ _ within in
      let goes : out ≡ evicted s n =
      out_is
      ∙ ap (λ x. evicted_by (stays p notes) p.cache.budget p.cache.residents (length x)) shared_is
      ∙ ap (λ ns. evicted_by (stays p ns) p.cache.budget p.cache.residents n) notes_are
      ∙ (makes_room p n law l k).go in
      let entry : entries.items
      ≡ p.entries.items ++ ContentArrived pass a n (facts_of content).digest out ∷ [] =
      is ∙ ap (λ x. p.entries.items ++ ContentArrived pass x size digest out ∷ []) noted_is
      ∙ ap (λ x. p.entries.items ++ ContentArrived pass a x digest out ∷ []) size_is
      ∙ ap (λ x. p.entries.items ++ ContentArrived pass a n x out ∷ []) digest_is in (
        arrived_lives p entries flying pass a cache content out l
            (ap (flies s pass) (sym mine) ∙ f) fit goes entry spare_is
            (flying_is ∙ ap (λ x. without_first (is_flight_of pass x) p.flying.items) mine)
            (residents_are ∙ ap (λ x. resident a x ∷ without out p.cache.residents) shared_is)
            pins_are budget_is,
        entry
            ∙ ap (λ x. p.entries.items
            ++ ContentArrived pass a n (facts_of content).digest x ∷ []) goes
            ∙ ap (λ b. p.entries.items
            ++ (if b then ContentArrived pass a n (facts_of content).digest (evicted s n)
            else Squeezed pass a n) ∷ []) (sym fit),
      )
