-- What is loaded is the library's, and what is resident has the library's length and digest.
use Rattle.std.specs.Prelude.{if◌then◌else◌}
use Rattle.std.proofs.Common.{ℕ, ◌≡◌, ◌≤◌, ◌<◌, Bool, true, false, not, ◌||◌, cond, Option, Some, None, option_map, List, [], ◌∷◌, ◌++◌, filter, filter_map, find, length, nat_le, refl, ◌∙◌, ap, subst, arith, leb-true, le-leb}
use Rattle.std.specs.List.{list_all, list_any, cons_option, AllByRecursion}
use Rattle.tile_types.specs.declared.key.Key.{Key}
use Rattle.tile_types.specs.Keys.{same_key}
use Rattle.tile_types.proofs.Keys.{key_is}
use Rattle.source_port.specs.Library.{Library, bytes_at}
use Rattle.tile_cache.specs.Residents.{same_text}
use Rattle.tile_cache.proofs.Texts.{text_is}
use Rattle.content_digest.specs.Facts.{facts_of}
use Rattle.content_digest.specs.declared.facts.ContentFacts.{ContentFacts}
use Rattle.content_digest.specs.declared.limits.TheConstants.{CONTENT_LIMIT}
use Rattle.doc_store.specs.declared.limits.TheConstants.{DOCUMENT_LIMIT}
use Rattle.doc_store.specs.Docs.{Loaded, bytes_of, is_content}
use Rattle.cut_core.specs.declared.line.CutLine.{CutLine}
use Rattle.cut_core.proofs.Bools.{and_left, and_right}
use Rattle.tree_expansion.specs.Whole.{AgreesWith, document_of, if_within}
use Rattle.engine_state.specs.declared.entry.Entry.{Entry}
use Rattle.engine_state.specs.declared.entry.Entry.TheVariants.{Opened, Looked, LookRefused, Returned, Taken, DocumentArrived, ContentArrived, Squeezed, Absent, Failed, Starved, Retried, Closed}
use Rattle.engine_state.specs.declared.gone.Gone.{Gone}
use Rattle.engine_state.specs.declared.gone.Gone.TheVariants.{Missing, TooLong, StoreFull}
use Rattle.engine_state.specs.declared.frame_line.FrameLine.{FrameLine}
use Rattle.engine_state.specs.declared.resident.Resident.{Resident}
use Rattle.engine_state.specs.State.{State, unopened, docs, documents}
use Rattle.engine_state.specs.Frames.{addresses_of, frame_lines, line_from, line_with}
use Rattle.engine_state.specs.Room.{all_moved_up, moved_up}
use Rattle.engine_state.specs.After.{after}
use Rattle.engine_state.specs.Journal.{after_all, replay}
use Rattle.engine_state.specs.Agreement.{Agrees, AgreesAt, AgreesFrom, IsGone, has_found_room}

-- ---- what holds of each element

rec_append : {A : Type 0} (P : A → Type 0) (xs ys : List A) → AllByRecursion P xs
    → AllByRecursion P ys → AllByRecursion P (xs ++ ys)
rec_append P [] ys h k = k
rec_append P (x ∷ xs) ys h k = (h.0, rec_append P xs ys h.1 k)

rec_filter : {A : Type 0} (P : A → Type 0) (q : A → Bool) (xs : List A) → AllByRecursion P xs
    → AllByRecursion P (filter q xs)
rec_filter P q [] h = tt
rec_filter P q (x ∷ xs) h =
    elim (q x) as (λ b. AllByRecursion P (cond b (x ∷ filter q xs) (filter q xs))) [
      | true ↦ (h.0, rec_filter P q xs h.1)
      | false ↦ rec_filter P q xs h.1
    ]

rec_moved : (P : Resident → Type 0) (addresses : List (List ℕ)) (rs : List Resident)
    → AllByRecursion P rs → AllByRecursion P (all_moved_up addresses rs)
rec_moved P [] rs h = h
rec_moved P (a ∷ rest) rs h =
    rec_moved P rest (moved_up rs a)
    (rec_append P (filter (λ r. same_text r.address a) rs)
    (filter (λ r. not (same_text r.address a)) rs)
    (rec_filter P (λ r. same_text r.address a) rs h)
    (rec_filter P (λ r. not (same_text r.address a)) rs h))

module _ (library : Library) where
  -- what is loaded is the library's document at its key
  abbrev IsLoadedFrom : Loaded → Type 0
  IsLoadedFrom l = document_of library l.key ≡ Some l.bytes

  -- of an absent document the library has none
  abbrev LacksDocument : Key → Type 0
  LacksDocument key = is_content key ≡ false → document_of library key ≡ None

  -- what is resident has the library's length and digest
  abbrev pub IsFrom : List ℕ → ContentFacts → Type 0
  IsFrom address facts = option_map facts_of (bytes_at library address) ≡ Some facts

  abbrev AreFrom : List Resident → Type 0
  AreFrom rs = AllByRecursion (λ r. IsFrom r.address r.facts) rs

  pub record IsKnown (s : State) : Type 0 where
    pub loaded : AllByRecursion IsLoadedFrom s.loaded
    pub absent : AllByRecursion LacksDocument s.absent

  within : (limit : ℕ) (o : Option (List ℕ)) (bytes : List ℕ) → o ≡ Some bytes
      → length bytes ≤ limit → if_within limit o ≡ Some bytes
  within limit o bytes e h =
      ap (if_within limit) e ∙ ap (λ b. if b then Some bytes else None) (le-leb (length bytes) limit h)

  too_long : (limit : ℕ) (o : Option (List ℕ)) (bytes : List ℕ) → o ≡ Some bytes
      → limit < length bytes → if_within limit o ≡ None
  too_long limit o bytes e h =
      ap (if_within limit) e
      ∙ elim (nat_le (length bytes) limit) as (λ b. nat_le (length bytes) limit ≡ b
      → (if b then Some bytes else None) ≡ None) [
        | true ↦ λ k. let small = leb-true (length bytes) limit k in absurd (omega arith)
        | false ↦ λ k. refl
      ] refl

  gone_lacks : (s : State) (key : Key) (why : Gone) → IsGone (Some library) s key why
      → (pass : ℕ) → has_found_room (Absent pass key why) ≡ true → LacksDocument key
  gone_lacks s key Missing g pass h c = ap (if_within DOCUMENT_LIMIT) g
  gone_lacks s key TooLong g pass h c =
      too_long DOCUMENT_LIMIT (bytes_at library key.address) g.0 g.1
      (subst (λ n. n < length g.0) (ap (λ b. if b then CONTENT_LIMIT else DOCUMENT_LIMIT) c) g.2)
  gone_lacks s key StoreFull g pass h c = cc

  known_step : (s : State) (e : Entry) → AgreesAt (Some library) s e
      → has_found_room e ≡ true → IsKnown s → IsKnown (after s e)
  known_step s (Opened root bytes budget order) a u k = record {
    loaded = (within DOCUMENT_LIMIT (bytes_at library root) bytes a.0 a.1, tt);
    absent = k.absent;
  }
  known_step s (Looked pass id viewer view settled) a u k =
      record { loaded = k.loaded; absent = k.absent }
  known_step s (LookRefused pass viewer view settled why) a u k =
      record { loaded = k.loaded; absent = k.absent }
  known_step s (Returned pass id) a u k =
      record { loaded = k.loaded; absent = k.absent }
  known_step s (Taken pass key) a u k =
      record { loaded = k.loaded; absent = k.absent }
  known_step s (DocumentArrived pass key bytes) a u k = record {
    loaded = rec_append IsLoadedFrom s.loaded (record { key = key; bytes = bytes } ∷ []) k.loaded
        (within DOCUMENT_LIMIT (bytes_at library key.address) bytes a.0 a.1, tt);
    absent = k.absent;
  }
  known_step s (ContentArrived pass address size digest out) a u k =
      record { loaded = k.loaded; absent = k.absent }
  known_step s (Squeezed pass address size) a u k =
      record { loaded = k.loaded; absent = k.absent }
  known_step s (Absent pass key why) a u k = record {
    loaded = k.loaded;
    absent = rec_append LacksDocument s.absent (key ∷ []) k.absent
        (gone_lacks s key why a pass u, tt);
  }
  known_step s (Failed pass key count) a u k =
      record { loaded = k.loaded; absent = k.absent }
  known_step s (Starved pass key) a u k =
      record { loaded = k.loaded; absent = k.absent }
  known_step s (Retried pass) a u k =
      record { loaded = k.loaded; absent = k.absent }
  known_step s (Closed pass) a u k =
      record { loaded = k.loaded; absent = k.absent }

  known_all : (s : State) (es : List Entry) → AgreesFrom (Some library) s es
      → list_all has_found_room es ≡ true → IsKnown s → IsKnown (after_all s es)
  known_all s [] a u k = k
  known_all s (e ∷ es) a u k =
      known_all (after s e) es a.1 (and_right (has_found_room e) _ u)
      (known_step s e a.0 (and_left _ _ u) k)

  pub known_along : (es : List Entry) → Agrees (Some library) es
      → list_all has_found_room es ≡ true → IsKnown (replay es)
  known_along es a u =
      known_all unopened es a u (record { loaded = tt; absent = tt })

  residents_step : (s : State) (e : Entry) → AgreesAt (Some library) s e → AreFrom s.residents
      → AreFrom (after s e).residents
  residents_step s (Opened root bytes budget order) a k = k
  residents_step s (Looked pass id viewer view settled) a k =
      rec_moved (λ r. IsFrom r.address r.facts) (addresses_of (frame_lines s view)) s.residents k
  residents_step s (LookRefused pass viewer view settled why) a k = k
  residents_step s (Returned pass id) a k = k
  residents_step s (Taken pass key) a k = k
  residents_step s (DocumentArrived pass key bytes) a k = k
  residents_step s (ContentArrived pass address size digest out) a k = (
    a.0,
    rec_filter (λ r. IsFrom r.address r.facts) (λ r. not (list_any (same_text r.address) out))
        s.residents k,
  )
  residents_step s (Squeezed pass address size) a k = k
  residents_step s (Absent pass key why) a k = k
  residents_step s (Failed pass key count) a k = k
  residents_step s (Starved pass key) a k = k
  residents_step s (Retried pass) a k = k
  residents_step s (Closed pass) a k = k

  residents_all : (s : State) (es : List Entry) → AgreesFrom (Some library) s es
      → AreFrom s.residents → AreFrom (after_all s es).residents
  residents_all s [] a k = k
  residents_all s (e ∷ es) a k = residents_all (after s e) es a.1 (residents_step s e a.0 k)

  pub residents_along : (es : List Entry) → Agrees (Some library) es
      → AreFrom (replay es).residents
  residents_along es a = residents_all unopened es a tt

  -- ---- the documents at hand

  loaded_there : (key : Key) (bytes : List ℕ) (ls : List Loaded)
      → AllByRecursion IsLoadedFrom ls → bytes_of ls key ≡ Some bytes
      → document_of library key ≡ Some bytes
  loaded_there key bytes [] h e = cc
  loaded_there key bytes (l ∷ ls) h e =
      elim (same_key key l.key) as (λ b. same_key key l.key ≡ b
      → (if b then Some l.bytes else bytes_of ls key) ≡ Some bytes
      → document_of library key ≡ Some bytes) [
        | true ↦ λ s k. ap (document_of library) (key_is key l.key s) ∙ h.0 ∙ k
        | false ↦ λ s k. loaded_there key bytes ls h.1 k
      ] refl e

  absent_there : (key : Key) (ks : List Key) → AllByRecursion LacksDocument ks
      → list_any (same_key key) (documents ks) ≡ true → document_of library key ≡ None
  absent_there key [] h e = cc
  absent_there key (k ∷ ks) h e =
      elim (is_content k) as (λ b. is_content k ≡ b
      → list_any (same_key key) (cond (not b) (k ∷ documents ks) (documents ks)) ≡ true
      → document_of library key ≡ None) [
        | true ↦ λ c f. absent_there key ks h.1 f
        | false ↦ λ c f.
            elim (same_key key k) as (λ b. same_key key k ≡ b
            → (b || list_any (same_key key) (documents ks)) ≡ true
            → document_of library key ≡ None) [
              | true ↦ λ s g. ap (document_of library) (key_is key k s) ∙ h.0 c
              | false ↦ λ s g. absent_there key ks h.1 g
            ] refl f
      ] refl e

  pub docs_agree : (s : State) → IsKnown s → AgreesWith library (docs s)
  docs_agree s k = record {
    loaded = λ key bytes e. loaded_there key bytes s.loaded k.loaded e;
    gone = λ key e. absent_there key s.absent k.absent e;
  }

  -- ---- the lines of a frame

  line_from_library : (rs : List Resident) (c : CutLine) (l : FrameLine)
      → AllByRecursion (λ r. IsFrom r.address r.facts) rs → line_from rs c ≡ Some l
      → IsFrom l.address l.facts
  line_from_library [] c l h e = cc
  line_from_library (r ∷ rs) c l h e =
      elim (same_text r.address c.address) as (λ b. same_text r.address c.address ≡ b
      → option_map (line_with c)
      (cond b (Some r) (find (λ x. same_text x.address c.address) rs)) ≡ Some l
      → IsFrom l.address l.facts) [
        | true ↦ λ s k.
            let is : line_with c r ≡ l = cc in
            subst (λ x. IsFrom x.address x.facts) is
            (subst (λ a. IsFrom a r.facts) (text_is r.address c.address s) h.0)
        | false ↦ λ s k. line_from_library rs c l h.1 k
      ] refl e

  pub lines_from_library : (rs : List Resident) (cs : List CutLine)
      → AllByRecursion (λ r. IsFrom r.address r.facts) rs
      → AllByRecursion (λ l. IsFrom l.address l.facts) (filter_map (line_from rs) cs)
  lines_from_library rs [] h = tt
  lines_from_library rs (c ∷ cs) h =
      elim (line_from rs c) as (λ o. line_from rs c ≡ o
      → AllByRecursion (λ l. IsFrom l.address l.facts)
      (cons_option o (filter_map (line_from rs) cs))) [
        | None ↦ λ e. lines_from_library rs cs h
        | Some l ↦ λ e. (line_from_library rs c l h e, lines_from_library rs cs h)
      ] refl
