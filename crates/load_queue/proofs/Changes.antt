-- What a change of the want of a key does to the list, the ranks and what the queue tells.
use Rattle.std.specs.Prelude.{if◌then◌else◌}
use Rattle.std.proofs.Common.{ℕ, ◌≡◌, ◌<◌, Bool, true, false, Some, None, nat_eq}
use Rattle.std.proofs.Common.{List, [], ◌∷◌, length, map, get_or, position, set, refl, sym}
use Rattle.std.proofs.Common.{◌∙◌, ap, subst, arith, eqb-true}
use Rattle.std.proofs.lemmas.Bool.{eqb-false}
use Rattle.std.specs.List.{AllByRecursion, IsDistinct}
use Rattle.std.proofs.lemmas.List.{ext_get_or, get_or_default, get_or-map, get_or-set_same}
use Rattle.std.proofs.lemmas.List.{get_or-set_other, length-map, length-set, map-set}
use Rattle.std.proofs.Math.ListN as lists
use Rattle.tile_types.specs.declared.key.Key.{Key}
use Rattle.tile_types.specs.declared.order.Order.{Order}
use Rattle.tile_types.specs.declared.want.Want.{Want}
use Rattle.tile_types.specs.contracts.key.KeyPartialEq.TheImpl.{eq-value}
use Rattle.tile_types.specs.Keys.{same_key}
use Rattle.load_queue.specs.declared.entry.Change.{Change}
use Rattle.load_queue.specs.declared.entry.Change.TheVariants as change
use Rattle.load_queue.specs.declared.entry.Entry.{Entry}
use Rattle.load_queue.specs.declared.entry.State.{State}
use Rattle.load_queue.specs.declared.entry.State.TheVariants.{Shown, Hidden, Dropped}
use Rattle.load_queue.specs.Entries.{AreKeyed, IsRanked, IsWithin, changed_entries, changed_entry}
use Rattle.load_queue.specs.Entries.{changed_wants, changed_queue, has_key, queued_wants, score}
use Rattle.load_queue.specs.Entries.{shown_entry, state_after, queued_before}
use Rattle.load_queue.specs.Queues.{Queue, QueuedWant, fresh_want}
use Rattle.load_queue.proofs.Keys.{distinct_at, found_place, is_not_second, none_found}
use Rattle.load_queue.proofs.Keys.{place_by_key, some_is}

abbrev pub key_of : Entry → Key
key_of e = e.want.key

abbrev pub after_change : Change → Entry → Entry
after_change c e = record { want = e.want; state = state_after c e.state }

-- ---- the list

changed_at : (c : Change) (key : Key) (es : List Entry) (k : ℕ) (d : Entry) → k < length es
    → get_or (changed_entries c key es) k d ≡ changed_entry c key (get_or es k d)
changed_at c key es k d within = get_or-map (changed_entry c key) es k d d within

stays : (c : Change) (key : Key) (e : Entry) → has_key key e ≡ false → changed_entry c key e ≡ e
stays c key e other = ap (λ b. if b then after_change c e else e) other

pub changes : (c : Change) (key : Key) (e : Entry) → has_key key e ≡ true
    → changed_entry c key e ≡ after_change c e
changes c key e same = ap (λ b. if b then after_change c e else e) same

-- without a want of the key nothing changes
pub none_changed : (c : Change) (key : Key) (es : List Entry) → position (has_key key) es ≡ None
    → changed_entries c key es ≡ es
none_changed c key [] none = refl
none_changed c key (e ∷ es) none =
    ext_get_or e (changed_entries c key (e ∷ es)) (e ∷ es)
    (length-map (e ∷ es) (changed_entry c key))
    (λ k h.
    let within : k < length (e ∷ es) = omega (arith, h, length-map (e ∷ es) (changed_entry c key))
    in
    changed_at c key (e ∷ es) k e within
    ∙ stays c key (get_or (e ∷ es) k e) (none_found (has_key key) (e ∷ es) none k e within))

-- else only the place of the key changes
pub one_changed : (c : Change) (key : Key) (es : List Entry) (n : ℕ) (d : Entry)
    → IsDistinct same_key (map key_of es) → position (has_key key) es ≡ Some n
    → changed_entries c key es ≡ set es n (after_change c (get_or es n d))
one_changed c key es n d apart found =
    ext_get_or d (changed_entries c key es) (set es n v)
    (length-map es (changed_entry c key) ∙ sym (length-set es n v))
    (λ k h.
    let within : k < length es = omega (arith, h, length-map es (changed_entry c key)) in
    changed_at c key es k d within ∙ each k within)
  where
    v : Entry
    v = after_change c (get_or es n d)

    place : (n < length es) × ((e : Entry) → has_key key (get_or es n e) ≡ true)
    place = found_place (has_key key) es n found

    each : (k : ℕ) → k < length es
        → changed_entry c key (get_or es k d)
        ≡ get_or (set es n (after_change c (get_or es n d))) k d
    each k within =
        elim (nat_eq k n) as (λ b. nat_eq k n ≡ b
        → changed_entry c key (get_or es k d)
        ≡ get_or (set es n (after_change c (get_or es n d))) k d) [
          | true ↦ λ h.
              let same : k ≡ n = eqb-true _ _ h in
              rw same
              (changes c key (get_or es n d) (place.1 d)
              ∙ sym (get_or-set_same es n (after_change c (get_or es n d)) d place.0))
          | false ↦ λ h.
              let other : k ≡ n → ⊥ = eqb-false _ _ h in
              stays c key (get_or es k d)
              (is_not_second key (key_of (get_or es n d)) (key_of (get_or es k d)) (place.1 d)
              (differ k within (λ e. other (sym e))))
              ∙ sym (get_or-set_other es n k (after_change c (get_or es n d)) d other)
        ] refl
      where
        differ : (k : ℕ) → k < length es → (n ≡ k → ⊥)
            → same_key (key_of (get_or es n d)) (key_of (get_or es k d)) ≡ false
        differ k within other =
            ap (λ a. same_key a (key_of (get_or es k d))) (sym (lists.get_or-map key_of es n d))
            ∙ ap (same_key (get_or (map key_of es) n (key_of d)))
            (sym (lists.get_or-map key_of es k d))
            ∙ distinct_at (map key_of es) apart n k (key_of d) other
            (omega (arith, length-map es key_of, place.0))
            (omega (arith, length-map es key_of, within))

-- the place that is found by `==` among the keys is that of the want
pub place_is : (key : Key) (es : List Entry) (keys : List Key) → AreKeyed es keys
    → position (eq-value.it key) keys ≡ position (has_key key) es
place_is key es keys keyed =
    ap (position (eq-value.it key)) keyed.keys_are ∙ place_by_key key_of key es

-- the place of the key is written
pub written : (c : Change) (key : Key) (es : List Entry) (keys : List Key) (n : ℕ)
    (entry read : Entry) (state : State)
    → AreKeyed es keys → position (has_key key) es ≡ Some n
    → entry ≡ get_or es n entry → read ≡ get_or es n read → state ≡ state_after c read.state
    → set es n (record { want = entry.want; state = state }) ≡ changed_entries c key es
written c key es keys n entry read state keyed found at read_at is =
    let within = (found_place (has_key key) es n found).0 in
    let same : read ≡ entry =
    read_at ∙ get_or_default es n read entry within ∙ sym at in
    ap (λ s. set es n (record { want = entry.want; state = s }))
    (is ∙ ap (λ e. state_after c e.state) same)
    ∙ ap (λ e. set es n (after_change c e)) at
    ∙ sym (one_changed c key es n entry (subst (IsDistinct same_key) keyed.keys_are keyed.apart)
    found)

-- only that place changes
pub written_only : (c : Change) (key : Key) (es : List Entry) (keys : List Key) (n m : ℕ)
    (e : Entry) (after : List Entry) (v : Entry) → AreKeyed es keys
    → position (has_key key) es ≡ Some n → Some n ≡ Some m → after ≡ set es n v
    → after ≡ set es m (get_or after m e)
written_only c key es keys n m e after v keyed found same is =
    let within = (found_place (has_key key) es n found).0 in
    let place : n ≡ m = some_is same in
    is
    ∙ ap (set es n) (sym (get_or-set_same es n v e within))
    ∙ ap (λ xs. set es n (get_or xs n e)) (sym is) ∙ ap (λ k. set es k (get_or after k e)) place

-- the keys stay
pub keys_stay : (c : Change) (key : Key) (es : List Entry) → map key_of (changed_entries c key es)
    ≡ map key_of es
keys_stay c key [] = refl
keys_stay c key (e ∷ es) =
    elim (has_key key e) as (λ b.
    (key_of (if b then after_change c e else e) ∷ map key_of (changed_entries c key es))
    ≡ map key_of (e ∷ es)) [
      | true ↦ ap (λ ks. key_of e ∷ ks) (keys_stay c key es)
      | false ↦ ap (λ ks. key_of e ∷ ks) (keys_stay c key es)
    ]

pub keyed_still : (c : Change) (key : Key) (es : List Entry) (keys : List Key) → AreKeyed es keys
    → AreKeyed (changed_entries c key es) keys
keyed_still c key es keys keyed = record {
  keys_are = keyed.keys_are ∙ sym (keys_stay c key es);
  apart = keyed.apart;
}

-- ---- the ranks

pub within_still : (order : Order) (c : Change) (key : Key) (es : List Entry)
    → AllByRecursion (IsWithin order) es → AllByRecursion (IsWithin order)
    (changed_entries c key es)
within_still order c key [] within = tt
within_still order c key (e ∷ es) within = (
  elim (has_key key e) as (λ b. IsWithin order (if b then after_change c e else e)) [
    | true ↦ within.0
    | false ↦ within.0
  ],
  within_still order c key es within.1,
)

-- the scores with that of the changed want
pub scores_set : (order : Order) (es after : List Entry) (n : ℕ) (e : Entry) (rank : ℕ)
    (ranks : List ℕ) → after ≡ set es n (get_or after n e) → ranks ≡ map (score order) es
    → rank ≡ score order (get_or after n e) → set ranks n rank ≡ map (score order) after
scores_set order es after n e rank ranks only are is =
    ap (λ xs. set xs n rank) are ∙ ap (set (map (score order) es) n) is
    ∙ sym (map-set (score order) es n (get_or after n e)) ∙ ap (map (score order)) (sym only)

pub ranked_still : (order by : Order) (c : Change) (key : Key) (es after : List Entry)
    (ranks set_ranks : List ℕ) → after ≡ changed_entries c key es → IsRanked order by es ranks
    → set_ranks ≡ map (score order) after → IsRanked order by after set_ranks
ranked_still order by c key es after ranks set_ranks is ranked scores = record {
  by = ranked.by;
  within =
      subst (AllByRecursion (IsWithin order)) (sym is) (within_still order c key es ranked.within);
  scores = scores;
}

-- ---- what the queue tells

tells : (c : Change) (key : Key) (want : Want) (state : State) (rest : List QueuedWant) (b : Bool)
    → same_key key want.key ≡ b
    → queued_before want (if b then state_after c state else state) (changed_wants c key rest)
    ≡ changed_wants c key (queued_before want state rest)
tells change.Hide key want Shown rest true e = rw e
tells change.Hide key want Shown rest false e = rw e
tells change.Hide key want Hidden rest true e = rw e
tells change.Hide key want Hidden rest false e = rw e
tells change.Hide key want Dropped rest true e = refl
tells change.Hide key want Dropped rest false e = refl
tells change.Show key want Shown rest true e = rw e
tells change.Show key want Shown rest false e = rw e
tells change.Show key want Hidden rest true e = rw e
tells change.Show key want Hidden rest false e = rw e
tells change.Show key want Dropped rest true e = refl
tells change.Show key want Dropped rest false e = refl
tells change.Drop key want Shown rest true e = rw e
tells change.Drop key want Shown rest false e = rw e
tells change.Drop key want Hidden rest true e = rw e
tells change.Drop key want Hidden rest false e = rw e
tells change.Drop key want Dropped rest true e = refl
tells change.Drop key want Dropped rest false e = refl

pub queued_changes : (c : Change) (key : Key) (es : List Entry)
    → queued_wants (changed_entries c key es) ≡ changed_wants c key (queued_wants es)
queued_changes change.Hide key [] = refl
queued_changes change.Show key [] = refl
queued_changes change.Drop key [] = refl
queued_changes c key (e ∷ es) =
    step (has_key key e) refl (queued_changes c key es)
  where
    chosen : (b : Bool) → queued_wants ((if b then after_change c e else e) ∷ changed_entries c
        key es)
        ≡ queued_before e.want (if b then state_after c e.state else e.state)
        (queued_wants (changed_entries c key es))
    chosen true = refl
    chosen false = refl

    step : (b : Bool) → has_key key e ≡ b
        → queued_wants (changed_entries c key es) ≡ changed_wants c key (queued_wants es)
        → queued_wants (changed_entry c key e ∷ changed_entries c key es)
        ≡ changed_wants c key (queued_before e.want e.state (queued_wants es))
    step b h rest =
        ap (λ x. queued_wants ((if x then after_change c e else e) ∷ changed_entries c key es)) h
        ∙ chosen b
        ∙ ap (queued_before e.want (if b then state_after c e.state else e.state)) rest
        ∙ tells c key e.want e.state (queued_wants es) b h

abbrev pub queue_of : Order → List Entry → Queue
queue_of order es = record { order = order; wants = queued_wants es }

pub queue_changes : (order : Order) (c : Change) (key : Key) (es after : List Entry)
    → after ≡ changed_entries c key es
    → queue_of order after ≡ changed_queue c key (queue_of order es)
queue_changes order c key es after is =
    let with_list : List QueuedWant → Queue = λ list. record { order = order; wants = list } in
    ap with_list (ap queued_wants is ∙ queued_changes c key es)

-- wants that are set are queued_before as not hidden
pub queued_fresh : (ws : List Want) → queued_wants (map shown_entry ws) ≡ map fresh_want ws
queued_fresh [] = refl
queued_fresh (w ∷ ws) = ap (λ rest. fresh_want w ∷ rest) (queued_fresh ws)

pub keyed_fresh : (ws : List Want) (es : List Entry) (keys : List Key) → es ≡ map shown_entry ws
    → keys ≡ map (λ w. w.key) ws → IsDistinct same_key (map (λ w. w.key) ws) → AreKeyed es keys
keyed_fresh ws es keys entries are apart = record {
  keys_are = are ∙ fresh_keys ws ∙ ap (map key_of) (sym entries);
  apart = subst (IsDistinct same_key) (sym are) apart;
}
  where
    fresh_keys : (ws : List Want) → map (λ w. w.key) ws ≡ map key_of (map shown_entry ws)
    fresh_keys [] = refl
    fresh_keys (w ∷ ws) = ap (λ rest. w.key ∷ rest) (fresh_keys ws)
