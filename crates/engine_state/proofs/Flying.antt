-- What is being fetched is to be loaded, no key is fetched twice, no address is resident twice, and
-- no resident is absent.
use Rattle.std.specs.Prelude.{if◌then◌else◌}
use Rattle.std.proofs.Common.{ℕ, ◌≡◌, Bool, true, false, not, ◌&&◌, ◌||◌, cond, Some, None, is_none, List, [], ◌∷◌, ◌++◌, filter, refl, sym, ◌∙◌, ap}
use Rattle.std.specs.List.{list_all, list_any}
use Rattle.tile_types.specs.declared.key.Key.{Key}
use Rattle.tile_types.specs.Keys.{same_key}
use Rattle.tile_types.proofs.Keys.{key_is, key_turned}
use Rattle.tile_cache.specs.Residents.{same_text}
use Rattle.tile_cache.proofs.Texts.{not_true, text_is, text_turned, text_refl}
use Rattle.doc_store.specs.Docs.{Loaded, bytes_of, is_content}
use Rattle.cut_core.specs.Visits.{content_key}
use Rattle.cut_core.proofs.Bools.{and_left, and_right}
use Rattle.tree_expansion.specs.Whole.{is_document}
use Rattle.engine_state.specs.declared.entry.Entry.{Entry}
use Rattle.engine_state.specs.declared.entry.Entry.TheVariants.{Opened, Looked, LookRefused, Returned, Taken, DocumentArrived, ContentArrived, Squeezed, Absent, Failed, Starved, Retried, Closed}
use Rattle.engine_state.specs.declared.flight.Flight.{Flight}
use Rattle.engine_state.specs.declared.resident.Resident.{Resident}
use Rattle.engine_state.specs.State.{State}
use Rattle.engine_state.specs.Frames.{addresses_of, frame_lines, has_address, holdings}
use Rattle.engine_state.specs.Loading.{best_want, flies, is_flight_of, is_key_of}
use Rattle.engine_state.specs.Room.{all_moved_up, moved_up, without}
use Rattle.engine_state.specs.Allowed.{allowed}
use Rattle.engine_state.specs.After.{after, fetch_ended, without_first}
use Rattle.engine_state.specs.Laws.{is_to_load}
use Rattle.engine_state.proofs.Lists.{and_both, all_both, all_filter, all_passed, all_weaker, all_without_first, none_any, some_both}
use Rattle.engine_state.proofs.Pinning.{moved_any}
use Rattle.engine_state.proofs.Wanted.{NodesWait, NodesAreDocuments, among, best_not_flying, best_to_load}

-- no key is fetched twice
abbrev pub flights_apart : List Flight → Bool
flights_apart [] = true
flights_apart (f ∷ fs) = list_all (λ g. not (same_key g.key f.key)) fs && flights_apart fs

-- no address is resident twice
abbrev pub residents_apart : List Resident → Bool
residents_apart [] = true
residents_apart (r ∷ rs) =
    list_all (λ x. not (same_text x.address r.address)) rs && residents_apart rs

abbrev all_to_load : State → List Flight → Bool
all_to_load s fs = list_all (λ f. is_to_load s f.key) fs

-- nothing comes of the content at this address
abbrev is_absent : List Key → List ℕ → Bool
is_absent absent address = list_any (same_key (content_key address)) absent

abbrev none_absent : List Key → List Resident → Bool
none_absent absent rs = list_all (λ r. not (is_absent absent r.address)) rs

pub record IsApart (s : State) : Type 0 where
  pub flights : flights_apart s.flying ≡ true
  pub to_load : all_to_load s s.flying ≡ true
  pub residents : residents_apart s.residents ≡ true
  pub present : none_absent s.absent s.residents ≡ true
  pub fresh : s.opened ≡ false → s.flying ≡ []

-- ---- flights

others : (key : Key) (pass : ℕ) (fs : List Flight) → flights_apart fs ≡ true
    → list_any (is_flight_of pass key) fs ≡ true
    → list_all (λ g. not (same_key g.key key)) (without_first (is_flight_of pass key) fs) ≡ true
others key pass [] e h = cc
others key pass (f ∷ fs) e h =
    let test : Flight → Bool = is_flight_of pass key in
    elim (test f) as (λ b. test f ≡ b → (b || list_any test fs) ≡ true
    → list_all (λ g. not (same_key g.key key)) (if b then fs else f ∷ without_first test fs)
    ≡ true) [
      | true ↦ λ t k.
          ap (λ x. list_all (λ g. not (same_key g.key x)) fs)
          (sym (key_is f.key key (and_left _ _ t))) ∙ and_left _ _ e
      | false ↦ λ t k.
          and_both (not (same_key f.key key)) _
          (elim (same_key f.key key) as (λ b. same_key f.key key ≡ b → not b ≡ true) [
            | true ↦ λ s.
                let found = some_both (λ g. not (same_key g.key f.key)) test fs
                (and_left _ _ e) k in
                let same : same_key found.0.key f.key ≡ true =
                ap (same_key found.0.key) (key_is f.key key s) ∙ and_left _ _ found.2 in
                let other : same_key found.0.key f.key ≡ false = not_true _ found.1 in
                cc
            | false ↦ λ s. refl
          ] refl)
          (others key pass fs
          (and_right (list_all (λ g. not (same_key g.key f.key)) fs) _ e) k)
    ] refl h

apart_without : (test : Flight → Bool) (fs : List Flight) → flights_apart fs ≡ true
    → flights_apart (without_first test fs) ≡ true
apart_without test [] e = refl
apart_without test (f ∷ fs) e =
    elim (test f) as (λ b. flights_apart (if b then fs else f ∷ without_first test fs) ≡ true) [
      | true ↦ and_right (list_all (λ g. not (same_key g.key f.key)) fs) _ e
      | false ↦ and_both (list_all (λ g. not (same_key g.key f.key)) (without_first test fs)) _
          (all_without_first (λ g. not (same_key g.key f.key)) test fs (and_left _ _ e))
          (apart_without test fs (and_right (list_all (λ g. not (same_key g.key f.key)) fs) _ e))
    ]

apart_more : (fs : List Flight) (new : Flight) → flights_apart fs ≡ true
    → list_all (λ g. not (same_key g.key new.key)) fs ≡ true
    → flights_apart (fs ++ new ∷ []) ≡ true
apart_more [] new e h = refl
apart_more (f ∷ fs) new e h =
    and_both (list_all (λ g. not (same_key g.key f.key)) (fs ++ new ∷ [])) _
    (all_both (λ g. not (same_key g.key f.key)) fs (new ∷ []) (and_left _ _ e)
    (and_both (not (same_key new.key f.key)) true
    (ap not (key_turned f.key new.key (not_true _ (and_left _ _ h)))) refl))
    (apart_more fs new (and_right (list_all (λ g. not (same_key g.key f.key)) fs) _ e)
    (and_right (not (same_key f.key new.key)) _ h))

module _ (s : State) (pass : ℕ) (key : Key) (p : IsApart s) (f : flies s pass key ≡ true) where
  -- what is still fetched when a fetch ends: to be loaded, and of other keys
  left : list_all (λ g. is_to_load s g.key && not (same_key g.key key))
      (fetch_ended s pass key).flying ≡ true
  left =
      both_all (λ g. is_to_load s g.key) (λ g. not (same_key g.key key))
      (without_first (is_flight_of pass key) s.flying)
      (all_without_first (λ g. is_to_load s g.key) (is_flight_of pass key) s.flying p.to_load)
      (others key pass s.flying p.flights f)
    where
      both_all : {A : Type 0} (a b : A → Bool) (xs : List A) → list_all a xs ≡ true
          → list_all b xs ≡ true → list_all (λ x. a x && b x) xs ≡ true
      both_all a b [] e h = refl
      both_all a b (x ∷ xs) e h =
          and_both (a x && b x) _ (and_both (a x) (b x) (and_left _ _ e) (and_left _ _ h))
          (both_all a b xs (and_right (a x) _ e) (and_right (b x) _ h))

  -- the key of a fetch is to be loaded
  pub flight_to_load : is_to_load s key ≡ true
  flight_to_load =
      let found = some_both (λ g. is_to_load s g.key) (is_flight_of pass key) s.flying
      p.to_load f in
      ap (is_to_load s) (sym (key_is found.0.key key (and_left _ _ found.2))) ∙ found.1

  ended_apart : flights_apart (fetch_ended s pass key).flying ≡ true
  ended_apart = apart_without (is_flight_of pass key) s.flying p.flights

  -- what stays to be loaded for other keys
  still_to_load : (now : State)
      → ((k : Key) → is_to_load s k ≡ true → same_key k key ≡ false → is_to_load now k ≡ true)
      → all_to_load now (fetch_ended s pass key).flying ≡ true
  still_to_load now h =
      all_weaker (λ g. is_to_load s g.key && not (same_key g.key key)) (λ g. is_to_load now g.key)
      (λ g e. h g.key (and_left _ _ e) (not_true _ (and_right (is_to_load s g.key) _ e)))
      (fetch_ended s pass key).flying left

-- ---- residents

residents_filter : (q : Resident → Bool) (rs : List Resident) → residents_apart rs ≡ true
    → residents_apart (filter q rs) ≡ true
residents_filter q [] e = refl
residents_filter q (r ∷ rs) e =
    elim (q r) as (λ b. residents_apart (cond b (r ∷ filter q rs) (filter q rs)) ≡ true) [
      | true ↦ and_both (list_all (λ x. not (same_text x.address r.address)) (filter q rs)) _
          (all_filter (λ x. not (same_text x.address r.address)) q rs (and_left _ _ e))
          (residents_filter q rs
          (and_right (list_all (λ x. not (same_text x.address r.address)) rs) _ e))
      | false ↦ residents_filter q rs
          (and_right (list_all (λ x. not (same_text x.address r.address)) rs) _ e)
    ]

residents_joined : (xs ys : List Resident) → residents_apart xs ≡ true
    → residents_apart ys ≡ true
    → list_all (λ x. list_all (λ y. not (same_text y.address x.address)) ys) xs ≡ true
    → residents_apart (xs ++ ys) ≡ true
residents_joined [] ys e h k = h
residents_joined (x ∷ xs) ys e h k =
    and_both (list_all (λ y. not (same_text y.address x.address)) (xs ++ ys)) _
    (all_both (λ y. not (same_text y.address x.address)) xs ys (and_left _ _ e) (and_left _ _ k))
    (residents_joined xs ys
    (and_right (list_all (λ y. not (same_text y.address x.address)) xs) _ e) h
    (and_right (list_all (λ y. not (same_text y.address x.address)) ys) _ k))

moved_apart : (rs : List Resident) (a : List ℕ) → residents_apart rs ≡ true
    → residents_apart (moved_up rs a) ≡ true
moved_apart rs a e =
    let q : Resident → Bool = λ r. same_text r.address a in
    let other : Resident → Bool = λ r. not (same_text r.address a) in
    residents_joined (filter q rs) (filter other rs) (residents_filter q rs e)
    (residents_filter other rs e)
    (all_weaker q (λ x. list_all (λ y. not (same_text y.address x.address)) (filter other rs))
    (λ x h. ap (λ b. list_all (λ y. not (same_text y.address b)) (filter other rs))
    (text_is x.address a h) ∙ all_passed other rs)
    (filter q rs) (all_passed q rs))

all_moved_apart : (addresses : List (List ℕ)) (rs : List Resident) → residents_apart rs ≡ true
    → residents_apart (all_moved_up addresses rs) ≡ true
all_moved_apart [] rs e = e
all_moved_apart (a ∷ rest) rs e = all_moved_apart rest (moved_up rs a) (moved_apart rs a e)

all_moved : (p : Resident → Bool) (addresses : List (List ℕ)) (rs : List Resident)
    → list_all p rs ≡ true → list_all p (all_moved_up addresses rs) ≡ true
all_moved p [] rs e = e
all_moved p (a ∷ rest) rs e =
    all_moved p rest (moved_up rs a)
    (all_both p (filter (λ r. same_text r.address a) rs)
    (filter (λ r. not (same_text r.address a)) rs)
    (all_filter p (λ r. same_text r.address a) rs e)
    (all_filter p (λ r. not (same_text r.address a)) rs e))

no_address : (q : Resident → Bool) (rs : List Resident) (a : List ℕ)
    → has_address rs a ≡ false → has_address (filter q rs) a ≡ false
no_address q [] a e = refl
no_address q (r ∷ rs) a e =
    elim (same_text r.address a) as (λ b. same_text r.address a ≡ b
    → (b || has_address rs a) ≡ false
    → has_address (cond (q r) (r ∷ filter q rs) (filter q rs)) a ≡ false) [
      | true ↦ λ s h. cc
      | false ↦ λ s h.
          elim (q r) as (λ b. has_address (cond b (r ∷ filter q rs) (filter q rs)) a ≡ false) [
            | true ↦ ap (λ b. b || has_address (filter q rs) a) s ∙ no_address q rs a h
            | false ↦ no_address q rs a h
          ]
    ] refl e

-- ---- each entry

to_load_by : (g c x x' y y' : Bool) → (g && (if c then x else y)) ≡ true
    → (c ≡ true → x ≡ true → x' ≡ true) → (c ≡ false → y ≡ true → y' ≡ true)
    → (g && (if c then x' else y')) ≡ true
to_load_by true true x x' y y' e h k = h refl e
to_load_by true false x x' y y' e h k = k refl e
to_load_by false c x x' y y' e h k = cc

not_loaded : (ls : List Loaded) (new : Loaded) (key : Key) → is_none (bytes_of ls key) ≡ true
    → same_key key new.key ≡ false → is_none (bytes_of (ls ++ new ∷ []) key) ≡ true
not_loaded [] new key e n = ap (λ b. is_none (if b then Some new.bytes else None)) n
not_loaded (l ∷ ls) new key e n =
    elim (same_key key l.key) as (λ b.
    is_none (if b then Some l.bytes else bytes_of ls key) ≡ true
    → is_none (if b then Some l.bytes else bytes_of (ls ++ new ∷ []) key) ≡ true) [
      | true ↦ λ h. h
      | false ↦ λ h. not_loaded ls new key h n
    ] e

-- one more absent key, which isn't this one
not_absent : (ks : List Key) (new key : Key) → list_any (same_key key) ks ≡ false
    → same_key key new ≡ false → list_any (same_key key) (ks ++ new ∷ []) ≡ false
not_absent [] new key e n = ap (λ b. b || false) n
not_absent (k ∷ ks) new key e n =
    elim (same_key key k) as (λ b. (b || list_any (same_key key) ks) ≡ false
    → (b || list_any (same_key key) (ks ++ new ∷ [])) ≡ false) [
      | true ↦ λ h. cc
      | false ↦ λ h. not_absent ks new key h n
    ] e

if_true : (c x y : Bool) → c ≡ true → (if c then x else y) ≡ true → x ≡ true
if_true true x y e h = h
if_true false x y e h = cc

-- the key that ends is absent from now on; no resident has it
absent_more : (s : State) (key : Key) → is_to_load s key ≡ true
    → none_absent s.absent s.residents ≡ true
    → none_absent (s.absent ++ key ∷ []) s.residents ≡ true
absent_more s key t e = by s.residents e (outside (is_content key) refl)
  where
    -- a content's key that is to be loaded isn't resident
    outside : (c : Bool) → is_content key ≡ c
        → list_all (λ r. not (same_key (content_key r.address) key)) s.residents ≡ true
    outside true c =
        let missing : not (has_address s.residents key.address) ≡ true =
        if_true (is_content key) _ _ c (and_right (not (list_any (same_key key) s.absent)) _ t) in
        all_weaker (λ r. not (same_text r.address key.address))
        (λ r. not (same_key (content_key r.address) key))
        (λ r h. differs r.address (not_true _ h)) s.residents
        (none_any (λ r. same_text r.address key.address) s.residents (not_true _ missing))
      where
        differs : (a : List ℕ) → same_text a key.address ≡ false
            → not (same_key (content_key a) key) ≡ true
        differs a h =
            elim (same_key (content_key a) key) as (λ b.
            same_key (content_key a) key ≡ b → not b ≡ true) [
              | true ↦ λ k.
                  let at : a ≡ key.address =
                  ap (λ (x : Key). x.address) (key_is (content_key a) key k) in
                  let same : same_text a key.address ≡ true =
                  ap (λ x. same_text x key.address) at ∙ text_refl key.address in
                  cc
              | false ↦ λ k. refl
            ] refl
    outside false c = every s.residents
      where
        every : (rs : List Resident)
            → list_all (λ r. not (same_key (content_key r.address) key)) rs ≡ true
        every [] = refl
        every (r ∷ rs) =
            and_both (not (same_key (content_key r.address) key)) _
            (elim (same_key (content_key r.address) key) as (λ b.
            same_key (content_key r.address) key ≡ b → not b ≡ true) [
              | true ↦ λ k.
                  let is : is_content key ≡ true =
                  ap is_content (sym (key_is (content_key r.address) key k)) in
                  cc
              | false ↦ λ k. refl
            ] refl)
            (every rs)

    by : (rs : List Resident) → none_absent s.absent rs ≡ true
        → list_all (λ r. not (same_key (content_key r.address) key)) rs ≡ true
        → none_absent (s.absent ++ key ∷ []) rs ≡ true
    by [] h k = refl
    by (r ∷ rs) h k =
        and_both (not (is_absent (s.absent ++ key ∷ []) r.address)) _
        (ap not (not_absent s.absent key (content_key r.address)
        (not_true _ (and_left _ _ h)) (not_true _ (and_left _ _ k))))
        (by rs (and_right (not (is_absent s.absent r.address)) _ h)
        (and_right (not (same_key (content_key r.address) key)) _ k))

-- a fetch that ends and changes nothing else of this
ended : (s now : State) (pass : ℕ) (key : Key) → IsApart s → flies s pass key ≡ true
    → s.opened ≡ true → now.opened ≡ s.opened
    → now.flying ≡ (fetch_ended s pass key).flying → now.residents ≡ s.residents
    → now.absent ≡ s.absent → now.loaded ≡ s.loaded → IsApart now
ended s now pass key p f is_open o fl r a l = record {
  flights = ap flights_apart fl ∙ ended_apart s pass key p f;
  to_load = ap (all_to_load now) fl ∙ still_to_load s pass key p f now
      (λ k t n. ap (λ rs. not (list_any (same_key k) now.absent)
      && (if is_content k then not (has_address rs k.address)
      else (is_document k && is_none (bytes_of now.loaded k)))) r
      ∙ ap (λ ls. not (list_any (same_key k) now.absent)
      && (if is_content k then not (has_address s.residents k.address)
      else (is_document k && is_none (bytes_of ls k)))) l
      ∙ ap (λ ks. not (list_any (same_key k) ks)
      && (if is_content k then not (has_address s.residents k.address)
      else (is_document k && is_none (bytes_of s.loaded k)))) a ∙ t);
  residents = ap residents_apart r ∙ p.residents;
  present = ap (λ rs. none_absent now.absent rs) r ∙ ap (λ ks. none_absent ks s.residents) a
      ∙ p.present;
  fresh = λ h. cc;
}

pub apart_step : NodesWait → NodesAreDocuments → (s : State) (e : Entry) → allowed s e ≡ true
    → IsApart s → IsApart (after s e)
apart_step wait are s (Opened root bytes budget order) a p =
    let none : s.flying ≡ [] = p.fresh (not_true s.opened (and_left _ _ a)) in
    record {
      flights = p.flights;
      to_load = ap (all_to_load (after s (Opened root bytes budget order))) none;
      residents = p.residents;
      present = p.present;
      fresh = λ h. none;
    }
apart_step wait are s (Looked pass id viewer view settled) a p =
    let is_open : s.opened ≡ true = and_left _ _ (and_left (s.opened && not s.closed) _ a) in
    let addresses : List (List ℕ) = addresses_of (frame_lines s view) in
    let there : (k : Key) → has_address (all_moved_up addresses s.residents) k.address
    ≡ has_address s.residents k.address = λ k.
    moved_any (λ r. same_text r.address k.address) addresses s.residents in
    record {
      flights = p.flights;
      to_load = all_weaker (λ f. is_to_load s f.key)
          (λ f. is_to_load (after s (Looked pass id viewer view settled)) f.key)
          (λ f h. to_load_by (not (list_any (same_key f.key) s.absent)) (is_content f.key)
          (not (has_address s.residents f.key.address)) _
          (is_document f.key && is_none (bytes_of s.loaded f.key)) _ h
          (λ c x. ap not (there f.key) ∙ x) (λ c x. x))
          s.flying p.to_load;
      residents = all_moved_apart addresses s.residents p.residents;
      present = all_moved (λ r. not (is_absent s.absent r.address)) addresses s.residents
          p.present;
      fresh = λ h. cc;
    }
apart_step wait are s (LookRefused pass viewer view settled why) a p = record {
  flights = p.flights;
  to_load = p.to_load;
  residents = p.residents;
  present = p.present;
  fresh = p.fresh;
}
apart_step wait are s (Returned pass id) a p = record {
  flights = p.flights;
  to_load = p.to_load;
  residents = p.residents;
  present = p.present;
  fresh = p.fresh;
}
apart_step wait are s (Taken pass key) a p =
    let is_open : s.opened ≡ true = and_left _ _ (and_left (s.opened && not s.closed) _ a) in
    let taken : is_key_of key (best_want s) ≡ true = and_right (s.opened && not s.closed) _ a in
    let new : Flight = record { key = key; pass = pass } in
    record {
      flights = apart_more s.flying new p.flights
          (none_any (λ g. same_key g.key key) s.flying (best_not_flying s key taken));
      to_load = all_both (λ f. is_to_load s f.key) s.flying (new ∷ []) p.to_load
          (and_both (is_to_load s key) true (best_to_load wait are s key taken) refl);
      residents = p.residents;
      present = p.present;
      fresh = λ h. cc;
    }
apart_step wait are s (DocumentArrived pass key bytes) a p =
    let is_open : s.opened ≡ true = and_left _ _ a in
    let f : flies s pass key ≡ true =
    and_left _ _ (and_right (not (is_content key)) _ (and_right s.opened _ a)) in
    let new : Loaded = record { key = key; bytes = bytes } in
    record {
      flights = ended_apart s pass key p f;
      to_load = still_to_load s pass key p f (after s (DocumentArrived pass key bytes))
          (λ k t n. to_load_by (not (list_any (same_key k) s.absent)) (is_content k)
          (not (has_address s.residents k.address)) _
          (is_document k && is_none (bytes_of s.loaded k)) _ t (λ c x. x)
          (λ c x. and_both (is_document k) _ (and_left _ _ x)
          (not_loaded s.loaded new k (and_right (is_document k) _ x) n)));
      residents = p.residents;
      present = p.present;
      fresh = λ h. cc;
    }
apart_step wait are s (ContentArrived pass address size digest out) a p =
    let is_open : s.opened ≡ true = and_left _ _ a in
    let key : Key = content_key address in
    let f : flies s pass key ≡ true = and_left _ _ (and_right s.opened _ a) in
    let new : Resident =
    record { address = address; facts = record { length = size; digest = digest } } in
    let keeps : Resident → Bool = λ r. not (list_any (same_text r.address) out) in
    let load : is_to_load s key ≡ true = flight_to_load s pass key p f in
    let mine : has_address s.residents address ≡ false =
    not_true _ (and_right (not (list_any (same_key key) s.absent)) _ load) in
    record {
      flights = ended_apart s pass key p f;
      to_load = still_to_load s pass key p f
          (after s (ContentArrived pass address size digest out))
          (λ k t n. to_load_by (not (list_any (same_key k) s.absent)) (is_content k)
          (not (has_address s.residents k.address)) _
          (is_document k && is_none (bytes_of s.loaded k)) _ t
          (λ c x.
          let other : same_text k.address address ≡ false =
          second (is_content k) (same_text k.address address) c n in
          let turned : same_text address k.address ≡ false =
          text_turned address k.address ∙ other in
          ap (λ b. not (b || has_address (without out s.residents) k.address)) turned
          ∙ ap not (no_address keeps s.residents k.address (not_true _ x)))
          (λ c x. x));
      residents = and_both
          (list_all (λ x. not (same_text x.address address)) (without out s.residents)) _
          (none_any (λ x. same_text x.address address) (without out s.residents)
          (no_address keeps s.residents address mine))
          (residents_filter keeps s.residents p.residents);
      present = and_both (not (is_absent s.absent address)) _ (and_left _ _ load)
          (all_filter (λ r. not (is_absent s.absent r.address)) keeps s.residents p.present);
      fresh = λ h. cc;
    }
  where
    second : (c t : Bool) → c ≡ true → (c && t) ≡ false → t ≡ false
    second true t e h = h
    second false t e h = cc
apart_step wait are s (Squeezed pass address size) a p =
    let is_open : s.opened ≡ true = and_left _ _ a in
    ended s (after s (Squeezed pass address size)) pass (content_key address) p
    (and_left _ _ (and_right s.opened _ a)) is_open refl refl refl refl refl
apart_step wait are s (Absent pass key why) a p =
    let is_open : s.opened ≡ true = and_left _ _ a in
    let f : flies s pass key ≡ true = and_left _ _ (and_right s.opened _ a) in
    record {
      flights = ended_apart s pass key p f;
      to_load = still_to_load s pass key p f (after s (Absent pass key why))
          (λ k t n. and_both (not (list_any (same_key k) (s.absent ++ key ∷ []))) _
          (ap not (not_absent s.absent key k (not_true _ (and_left _ _ t)) n))
          (and_right (not (list_any (same_key k) s.absent)) _ t));
      residents = p.residents;
      present = absent_more s key (flight_to_load s pass key p f) p.present;
      fresh = λ h. cc;
    }
apart_step wait are s (Failed pass key count) a p =
    let is_open : s.opened ≡ true = and_left _ _ a in
    ended s (after s (Failed pass key count)) pass key p
    (and_left _ _ (and_right s.opened _ a)) is_open refl refl refl refl refl
apart_step wait are s (Starved pass key) a p =
    let is_open : s.opened ≡ true = and_left _ _ a in
    ended s (after s (Starved pass key)) pass key p (and_right s.opened _ a) is_open
    refl refl refl refl refl
apart_step wait are s (Retried pass) a p = record {
  flights = p.flights;
  to_load = p.to_load;
  residents = p.residents;
  present = p.present;
  fresh = p.fresh;
}
apart_step wait are s (Closed pass) a p = record {
  flights = p.flights;
  to_load = p.to_load;
  residents = p.residents;
  present = p.present;
  fresh = p.fresh;
}

-- no resident is absent
pub resident_present : (s : State) (a : List ℕ) → IsApart s → has_address s.residents a ≡ true
    → (holdings s).absent a ≡ false
resident_present s a p h =
    let found = some_both (λ r. not (is_absent s.absent r.address)) (λ r. same_text r.address a)
    s.residents p.present h in
    among is_content (content_key a) s.absent refl
    ∙ ap (is_absent s.absent) (sym (text_is found.0.address a found.2)) ∙ not_true _ found.1
