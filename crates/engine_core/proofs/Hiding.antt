-- Wants are hidden one key after the other.
use Rattle.std.specs.Prelude.{if◌then◌else◌}
use Rattle.std.proofs.Common.{ℕ, ◌≡◌, ◌+◌, ◌<◌, ◌≤◌, Bool, true, false, not, ◌&&◌, ◌||◌, cond, nat_lt, List, [], ◌∷◌, filter, length, map, take, get_or, refl, sym, ◌∙◌, ap, arith}
use Rattle.std.specs.List.{list_any}
use Rattle.std.proofs.lemmas.Bool.{ltb-false}
use Rattle.std.proofs.lemmas.List.{take_all, take_more}
use Rattle.std.proofs.lemmas.List.Folds.{list_any-append}
use Rattle.tile_types.specs.declared.key.Key.{Key}
use Rattle.tile_types.specs.Keys.{same_key}
use Rattle.tile_types.proofs.Keys.{key_is, key_refl}
use Rattle.load_queue.specs.Queues.{QueuedWant, with_hidden}
use Rattle.engine_state.specs.declared.limits.TheConstants.{ATTEMPT_LIMIT}
use Rattle.engine_core.specs.Filling.{hidden_where, is_given_up}

pub hidden_by_none : (ws : List QueuedWant) → map (hidden_where (λ key. false)) ws ≡ ws
hidden_by_none [] = refl
hidden_by_none (w ∷ ws) =
    ap (λ b. record { want = w.want; hidden = b } ∷ map (hidden_where (λ key. false)) ws)
    (or_false w.hidden)
    ∙ ap (λ vs. w ∷ vs) (hidden_by_none ws)
  where
    or_false : (b : Bool) → (b || false) ≡ b
    or_false true = refl
    or_false false = refl

pub hidden_alike : (p q : Key → Bool) → ((key : Key) → p key ≡ q key) → (ws : List QueuedWant)
    → map (hidden_where p) ws ≡ map (hidden_where q) ws
hidden_alike p q same [] = refl
hidden_alike p q same (w ∷ ws) =
    ap (λ b. record { want = w.want; hidden = w.hidden || b } ∷ map (hidden_where p) ws)
    (same w.want.key)
    ∙ ap (λ vs. hidden_where q w ∷ vs) (hidden_alike p q same ws)

-- one key more is hidden
pub hidden_more : (p q : Key → Bool) (key : Key)
    → ((k : Key) → (p k || same_key key k) ≡ q k) → (ws : List QueuedWant)
    → map (with_hidden true key) (map (hidden_where p) ws) ≡ map (hidden_where q) ws
hidden_more p q key same [] = refl
hidden_more p q key same (w ∷ ws) =
    ap (λ v. v ∷ map (with_hidden true key) (map (hidden_where p) ws)) here
    ∙ ap (λ vs. hidden_where q w ∷ vs) (hidden_more p q key same ws)
  where
    as_hidden : Bool → QueuedWant
    as_hidden b = record { want = w.want; hidden = b }

    turned : (a b c : Bool)
        → (if c then as_hidden true else as_hidden (a || b)) ≡ as_hidden (a || (b || c))
    turned true b true = refl
    turned true b false = refl
    turned false true true = refl
    turned false true false = refl
    turned false false true = refl
    turned false false false = refl

    here : with_hidden true key (hidden_where p w) ≡ hidden_where q w
    here = turned w.hidden (p w.want.key) (same_key key w.want.key)
        ∙ ap (λ b. as_hidden (w.hidden || b)) (same w.want.key)

-- ---- the keys of a list

-- one of the first keys is this one
abbrev pub is_among : {A : Type 0} → (A → Key) → ℕ → List A → Key → Bool
is_among key_of n xs key = list_any (λ x. same_key (key_of x) key) (take n xs)

module _ {A : Type 0} (key_of : A → Key) (xs : List A) where
  pub one_more : (i : ℕ) (d : A) → i < length xs → (key : Key)
      → (is_among key_of i xs key || same_key (key_of (get_or xs i d)) key)
      ≡ is_among key_of (i + 1) xs key
  one_more i d lt key =
      or_last (is_among key_of i xs key) (same_key (key_of (get_or xs i d)) key)
      ∙ sym (list_any-append (λ x. same_key (key_of x) key) (take i xs) (get_or xs i d ∷ []))
      ∙ ap (list_any (λ x. same_key (key_of x) key)) (sym (take_more xs i d lt))
    where
      or_last : (a b : Bool) → (a || b) ≡ (a || (b || false))
      or_last true b = refl
      or_last false true = refl
      or_last false false = refl

  -- the key at one place more is hidden
  pub hidden_next : (i : ℕ) (x : A) → i < length xs → x ≡ get_or xs i x
      → (old mid new : List QueuedWant) → mid ≡ map (hidden_where (is_among key_of i xs)) old
      → new ≡ map (with_hidden true (key_of x)) mid
      → new ≡ map (hidden_where (is_among key_of (i + 1) xs)) old
  hidden_next i x lt here old mid new before step =
      step ∙ ap (map (with_hidden true (key_of x))) before
      ∙ hidden_more (is_among key_of i xs) (is_among key_of (i + 1) xs) (key_of x)
      (λ key. ap (λ y. is_among key_of i xs key || same_key (key_of y) key) here
      ∙ one_more i x lt key) old

-- ---- keys that pass a test

-- one of the first keys is this one, which passes
abbrev pub is_passing : (Key → Bool) → ℕ → List Key → Key → Bool
is_passing test n keys key = is_among (λ k. k) n keys key && test key

module _ (test : Key → Bool) (keys : List Key) where
  one_passes : (i : ℕ) (x : Key) → i < length keys → x ≡ get_or keys i x → test x ≡ true
      → (key : Key) → (is_passing test i keys key || same_key x key) ≡ is_passing test (i + 1) keys key
  one_passes i x lt here e key =
      elim (same_key x key) as (λ s. same_key x key ≡ s
      → (is_passing test i keys key || s) ≡ is_passing test (i + 1) keys key) [
        | true ↦ λ h.
            let passes : test key ≡ true = ap test (sym (key_is x key h)) ∙ e in
            by_true (is_among (λ k. k) i keys key) (test key) passes
            ∙ ap (λ b. (is_among (λ k. k) i keys key || b) && test key) (sym h)
            ∙ ap (λ b. b && test key) (next key)
        | false ↦ λ h.
            by_false (is_among (λ k. k) i keys key) (test key)
            ∙ ap (λ b. (is_among (λ k. k) i keys key || b) && test key) (sym h)
            ∙ ap (λ b. b && test key) (next key)
      ] refl
    where
      next : (key : Key) → (is_among (λ k. k) i keys key || same_key x key)
          ≡ is_among (λ k. k) (i + 1) keys key
      next key = ap (λ y. is_among (λ k. k) i keys key || same_key y key) here
          ∙ one_more (λ k. k) keys i x lt key

      by_true : (a g : Bool) → g ≡ true → ((a && g) || true) ≡ ((a || true) && g)
      by_true true true h = refl
      by_true false true h = refl
      by_true true false h = cc
      by_true false false h = cc

      by_false : (a g : Bool) → ((a && g) || false) ≡ ((a || false) && g)
      by_false true true = refl
      by_false true false = refl
      by_false false g = refl

  none_passes : (i : ℕ) (x : Key) → i < length keys → x ≡ get_or keys i x → test x ≡ false
      → (key : Key) → is_passing test i keys key ≡ is_passing test (i + 1) keys key
  none_passes i x lt here e key =
      elim (same_key x key) as (λ s. same_key x key ≡ s
      → is_passing test i keys key ≡ is_passing test (i + 1) keys key) [
        | true ↦ λ h.
            let fails : test key ≡ false = ap test (sym (key_is x key h)) ∙ e in
            never (is_among (λ k. k) i keys key) (test key) fails
            ∙ sym (never (is_among (λ k. k) (i + 1) keys key) (test key) fails)
        | false ↦ λ h.
            ap (λ b. b && test key) (or_none (is_among (λ k. k) i keys key)
            ∙ ap (λ b. is_among (λ k. k) i keys key || b) (sym h) ∙ next key)
      ] refl
    where
      next : (key : Key) → (is_among (λ k. k) i keys key || same_key x key)
          ≡ is_among (λ k. k) (i + 1) keys key
      next key = ap (λ y. is_among (λ k. k) i keys key || same_key y key) here
          ∙ one_more (λ k. k) keys i x lt key

      never : (a g : Bool) → g ≡ false → (a && g) ≡ false
      never true g h = h
      never false g h = refl

      or_none : (a : Bool) → a ≡ (a || false)
      or_none true = refl
      or_none false = refl

  -- the key at one place more is hidden where it passes
  pub passing_next : (i : ℕ) (x : Key) → i < length keys → x ≡ get_or keys i x → test x ≡ true
      → (old mid new : List QueuedWant) → mid ≡ map (hidden_where (is_passing test i keys)) old
      → new ≡ map (with_hidden true x) mid
      → new ≡ map (hidden_where (is_passing test (i + 1) keys)) old
  passing_next i x lt here e old mid new before step =
      step ∙ ap (map (with_hidden true x)) before
      ∙ hidden_more (is_passing test i keys) (is_passing test (i + 1) keys) x
      (one_passes i x lt here e) old

  pub failing_next : (i : ℕ) (x : Key) → i < length keys → x ≡ get_or keys i x → test x ≡ false
      → (old : List QueuedWant) → map (hidden_where (is_passing test i keys)) old
      ≡ map (hidden_where (is_passing test (i + 1) keys)) old
  failing_next i x lt here e old =
      hidden_alike (is_passing test i keys) (is_passing test (i + 1) keys)
      (none_passes i x lt here e) old

-- a key that was tried in vain too often is one of those that were tried
tried : (attempts : List Key) (key : Key) → 0 < length (filter (same_key key) attempts)
    → list_any (λ k. same_key k key) attempts ≡ true
tried [] key h = absurd (omega (arith, h))
tried (k ∷ ks) key h =
    elim (same_key key k) as (λ s. same_key key k ≡ s
    → 0 < length (cond s (k ∷ filter (same_key key) ks) (filter (same_key key) ks))
    → (same_key k key || list_any (λ k. same_key k key) ks) ≡ true) [
      | true ↦ λ e g.
          ap (λ x. same_key k x || list_any (λ k. same_key k key) ks) (key_is key k e)
          ∙ ap (λ b. b || list_any (λ k. same_key k key) ks) (key_refl k)
      | false ↦ λ e g. or_true (same_key k key) _ (tried ks key g)
    ] refl h
  where
    or_true : (a b : Bool) → b ≡ true → (a || b) ≡ true
    or_true true b h = refl
    or_true false b h = h

pub given_up_is_tried : (attempts : List Key) (n : ℕ) → length attempts ≤ n → (key : Key)
    → is_passing (is_given_up attempts) n attempts key ≡ is_given_up attempts key
given_up_is_tried attempts n end key =
    ap (λ ks. list_any (λ k. same_key k key) ks && is_given_up attempts key)
    (take_all n attempts end)
    ∙ elim (nat_lt times ATTEMPT_LIMIT) as (λ b. nat_lt times ATTEMPT_LIMIT ≡ b
    → (list_any (λ k. same_key k key) attempts && not b) ≡ not b) [
      | true ↦ λ e. never (list_any (λ k. same_key k key) attempts)
      | false ↦ λ e.
          let many = ltb-false times ATTEMPT_LIMIT e in
          ap (λ b. b && true) (tried attempts key (omega (arith, many)))
    ] refl
  where
    times : ℕ
    times = length (filter (same_key key) attempts)

    never : (a : Bool) → (a && false) ≡ false
    never true = refl
    never false = refl
