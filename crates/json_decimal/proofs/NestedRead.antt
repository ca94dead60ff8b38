-- Lists and objects, whose entries are added item by item.
use Rattle.std.proofs.Common.{◌≡◌, ℕ, ◌-◌, ◌<◌, List, [], ◌∷◌, ◌++◌, length, set, Bool, true, false, cond, Some, None, Result, Ok, Err, Bor, refl, sym, subst, ap, ◌∙◌, arith, append_assoc, length-append}
use Rattle.std.proofs.lemmas.List.{append-nil}
use Rattle.std.specs.Prelude.{IsTrue}
use Rattle.json_decimal.specs.JsonValue.{JsonValue, list, object, values, pairs, list_of-values, pairs_of-pairs}
use Rattle.json_decimal.specs.Characters.{is_whitespace}
use Rattle.json_decimal.specs.Scan.{Fails, skip, after_byte}
use Rattle.json_decimal.specs.Reading.{Nested, separator, closing, neither, behind_item, items, enclosed, name_at, pair_at, value_at}
use Rattle.json_decimal.specs.Entries.{paired, form_from, value_from, inside_of, is_extent}
use Rattle.json_decimal.specs.ReadsInto.{EndsIn, AddsEntries, IsReadInto, ReadsInto, entry, one, name_alone, member_alone}
use Rattle.json_decimal.specs.Nested as nested
use Rattle.json_decimal.specs.Nested.{Item, opening, item_at, item_values, nested_in, ReadsBefore}
use Rattle.json_decimal.specs.declared.entry.Entry.{Entry}
use Rattle.json_decimal.specs.declared.error.JsonError.{JsonError}
use Rattle.json_decimal.specs.declared.nesting.Nesting.{Nesting}
use Rattle.json_decimal.specs.declared.nesting.Nesting.TheVariants as nestings
use Rattle.json_decimal.proofs.Added.{adds_nothing, adds_then, adds_leaf, adds_closed, ends_more, Leaves, value_leaves, name_leaves, pair_leaves}
use Rattle.json_decimal.proofs.Items.{with_front, goes_on, closes, stops, falls, ends, empty, begins}
use Rattle.json_decimal.proofs.Lists.{list_fails, list_none, list_some, object_fails, object_none, object_some, pair_some, pair_fails_name, pair_fails_value, no_nesting}
use Rattle.json_decimal.proofs.Shrinks.{value_at_shrinks, pair_at_shrinks}
use Rattle.json_decimal.proofs.Steps.{Shrinks}

-- white space is passed over once
skip_by : (b : ℕ) (bs : List ℕ) (t : Bool) → is_whitespace b ≡ t → skip (skip bs) ≡ skip bs
    → skip (skip (b ∷ bs)) ≡ skip (b ∷ bs)
skip_by b bs true h rest =
    let e : skip (b ∷ bs) ≡ skip bs = ap (λ t. cond t (skip bs) (b ∷ bs)) h in ap skip e
    ∙ rest
    ∙ sym e
skip_by b bs false h rest = ap skip (ap (λ t. cond t (skip bs) (b ∷ bs)) h)

skip-skip : (bs : List ℕ) → skip (skip bs) ≡ skip bs
skip-skip [] = refl
skip-skip (b ∷ bs) = skip_by b bs (is_whitespace b) refl (skip-skip bs)

-- a name, up to its value
pub name_before : (bytes bs behind at_value : List ℕ) (a b : List Entry)
    → IsReadInto name_alone bytes a b behind (name_at bs) → at_value ≡ skip behind
    → IsReadInto name_alone bytes a b at_value (name_at bs) × (skip at_value ≡ at_value)
name_before bytes bs behind at_value a b n e =
    let same : skip at_value ≡ skip behind = ap skip e ∙ skip-skip behind in (
      record {
        what = n.what;
        is_read = n.is_read ∙ ap (λ (s : List ℕ). Some (n.what, s)) (sym same);
        adds = n.adds;
      },
      same ∙ sym e,
    )

-- a member, from its name and its value
member_is_read : (d : ℕ) (bytes bs at_value rest : List ℕ) (a b c : List Entry)
    → IsReadInto name_alone bytes a b at_value (name_at bs)
    → skip at_value ≡ at_value → IsReadInto one bytes b c rest (value_at d at_value)
    → IsReadInto member_alone bytes a c rest (pair_at (value_at d) bs)
member_is_read d bytes bs at_value rest a b c n e v = record {
  what = (n.what, v.what);
  is_read =
      pair_some (value_at d) bs n.what at_value (skip rest) v.what
      (n.is_read ∙ ap (λ (s : List ℕ). Some (n.what, s)) e) v.is_read;
  adds = adds_then bytes a b c (name_alone n.what) (one v.what) n.adds v.adds;
}

-- an item, from what stands before its value and from that
pub item_reads_into : (n : Nesting) (d : ℕ) (bytes bs : List ℕ) (at_value : Bor (List ℕ))
    (a b c : List Entry) (r : Result (Bor (List ℕ)) JsonError)
    → ReadsBefore n bytes a b (Ok at_value) bs → ReadsInto one bytes b c r (value_at d at_value.now)
    → ReadsInto (item_values n) bytes a c r (item_at n d bs)
item_reads_into nestings.List d bytes bs at_value a b c r n v =
    subst (λ (a : List Entry). ReadsInto one bytes a c r (value_at d bs)) n.0
    (subst (λ (bs : List ℕ). ReadsInto one bytes b c r (value_at d bs)) n.1 v)
item_reads_into nestings.Object d bytes bs at_value a b c (Ok rest) n v =
    member_is_read d bytes bs at_value.now rest.now a b c n.0 n.1 v
item_reads_into nestings.Object d bytes bs at_value a b c (Err e) n f =
    pair_fails_value e (value_at d) bs n.0.what at_value.now
    (n.0.is_read ∙ ap (λ (s : List ℕ). Some (n.0.what, s)) n.1) f

pub item_fails : (n : Nesting) (d : ℕ) (bytes bs : List ℕ) (a b : List Entry) (e : JsonError)
    → ReadsBefore n bytes a b (Err e) bs → Fails e (item_at n d bs)
item_fails nestings.List d bytes bs a b e f = absurd f
item_fails nestings.Object d bytes bs a b e f = pair_fails_name e (value_at d) bs f

pub value_ends : (n : Nesting) (bytes bs : List ℕ) (at_value : Bor (List ℕ)) (a b : List Entry)
    → EndsIn bytes bs → ReadsBefore n bytes a b (Ok at_value) bs
    → EndsIn bytes at_value.now
value_ends nestings.List bytes bs at_value a b h n = subst (EndsIn bytes) (sym n.1) h
value_ends nestings.Object bytes bs at_value a b h n =
    subst (EndsIn bytes) n.1 (name_leaves bytes bs (n.0.what, skip at_value.now) h n.0.is_read)

item_shrinks : (n : Nesting) (d : ℕ) → Shrinks (item_at n d)
item_shrinks nestings.List d = value_at_shrinks d
item_shrinks nestings.Object d = pair_at_shrinks (value_at d) (value_at_shrinks d)

item_leaves : (n : Nesting) (d : ℕ) → Leaves (item_at n d)
item_leaves nestings.List d = value_leaves d
item_leaves nestings.Object d = pair_leaves d

abbrev all_of : {A : Type 0} → (A → List JsonValue) → List A → List JsonValue
all_of f [] = []
all_of f (x ∷ xs) = f x ++ all_of f xs

all_of-push : {A : Type 0} (f : A → List JsonValue) (xs : List A) (x : A)
    → all_of f (xs ++ x ∷ []) ≡ all_of f xs ++ f x
all_of-push f [] x = append-nil (f x)
all_of-push f (y ∷ ys) x =
    ap (λ (us : List JsonValue). f y ++ us) (all_of-push f ys x)
    ∙ sym (append_assoc (f y) (all_of f ys) (f x))

all_ones : (vs : List JsonValue) → all_of one vs ≡ vs
all_ones [] = refl
all_ones (v ∷ vs) = ap (λ (us : List JsonValue). v ∷ us) (all_ones vs)

paired-members : (ps : List (List ℕ × JsonValue)) → paired (all_of member_alone ps) ≡ ps
paired-members [] = refl
paired-members (p ∷ ps) = ap (λ (qs : List (List ℕ × JsonValue)). p ∷ qs) (paired-members ps)

-- the items read so far, whose entries are there behind that of what they are in, and what is still
-- read
pub record HasRead (n : Nesting) (d : ℕ) (bytes spelled within : List ℕ) (old now : List Entry)
    (rest : List ℕ) : Type 0 where
  read : List (Item n)
  adds : AddsEntries bytes (old ++ entry bytes spelled 0 ∷ []) now (all_of (item_values n) read)
  so_far : with_front read (items (nested.closing n) (item_at n d) rest)
      ≡ enclosed (nested.closing n) (item_at n d) (skip within)
  pub ends : EndsIn bytes rest

-- all items, whose entries are there
pub record AllRead (n : Nesting) (d : ℕ) (bytes spelled within : List ℕ) (old now : List Entry)
    (rest : List ℕ) : Type 0 where
  read : List (Item n)
  adds : AddsEntries bytes (old ++ entry bytes spelled 0 ∷ []) now (all_of (item_values n) read)
  all : enclosed (nested.closing n) (item_at n d) (skip within) ≡ Some (read, skip rest)

-- the value of these items
abbrev made : (n : Nesting) → List (Item n) → JsonValue
made nestings.List vs = list (values vs)
made nestings.Object ps = object (pairs ps)

value_is : (n : Nesting) (within : List ℕ) (read : List (Item n))
    → value_from (opening n ∷ within) (all_of (item_values n) read) ≡ made n read
value_is nestings.List within vs = ap (λ (vs : List JsonValue). list (values vs)) (all_ones vs)
value_is nestings.Object within ps =
    ap (λ (ps : List (List ℕ × JsonValue)). object (pairs ps)) (paired-members ps)

read_is : (n : Nesting) (d : ℕ) (within : List ℕ) (read : List (Item n)) (rest : List ℕ) → 0 < d
    → enclosed (nested.closing n) (item_at n (d - 1)) (skip within) ≡ Some (read, rest)
    → nested_in n d within ≡ Some (made n read, rest)
read_is nestings.List d within vs rest less e =
    list_some d within less (values vs) rest
    (e ∙ ap (λ (vs : List JsonValue). Some (vs, rest)) (sym (list_of-values vs)))
read_is nestings.Object d within ps rest less e =
    object_some d within less (pairs ps) rest
    (e ∙ ap (λ (ps : List (List ℕ × JsonValue)). Some (ps, rest)) (sym (pairs_of-pairs ps)))

inside_is : (n : Nesting) (within : List ℕ) (extent : ℕ)
    → inside_of (opening n ∷ within) extent ≡ extent
inside_is nestings.List within extent = refl
inside_is nestings.Object within extent = refl

told_is : (n : Nesting) (within : List ℕ) (extent : ℕ)
    → IsTrue (is_extent (form_from (opening n ∷ within)) (opening n ∷ within) extent)
told_is nestings.List within extent = refl
told_is nestings.Object within extent = refl

pub fails : (n : Nesting) (d : ℕ) (within : List ℕ) (e : JsonError) → 0 < d
    → Fails e (enclosed (nested.closing n) (item_at n (d - 1)) (skip within))
    → Fails e (nested_in n d within)
fails nestings.List d within e less f = list_fails d within less e f
fails nestings.Object d within e less f = object_fails d within less e f

pub none_in : (n : Nesting) (d : ℕ) (within : List ℕ) → 0 < d
    → enclosed (nested.closing n) (item_at n (d - 1)) (skip within) ≡ None
    → nested_in n d within ≡ None
none_in nestings.List d within less e = list_none d within less e
none_in nestings.Object d within less e = object_none d within less e

pub too_deep : (n : Nesting) (d : ℕ) (within : List ℕ) → d ≡ 0 → nested_in n d within ≡ None
too_deep nestings.List d within h = ap (λ (n : Nested). n.0 within) (no_nesting d h)
too_deep nestings.Object d within h = ap (λ (n : Nested). n.1 within) (no_nesting d h)

module _ (n : Nesting) (d : ℕ) (bytes spelled within : List ℕ) (old : List Entry) where
  pub begun : (now : List Entry) → EndsIn bytes (skip within)
      → after_byte (nested.closing n) (skip within) ≡ None
      → now ≡ old ++ entry bytes spelled 0 ∷ []
      → HasRead n d bytes spelled within old now (skip within)
  begun now h e k = record {
    read = [];
    adds = adds_nothing bytes _ now k;
    so_far = begins (nested.closing n) (item_at n d) (item_shrinks n d) (skip within) e;
    ends = h;
  }

  added_one : (now next : List Entry) (xs : List (Item n)) (x : Item n)
      → AddsEntries bytes (old ++ entry bytes spelled 0 ∷ []) now (all_of (item_values n) xs)
      → AddsEntries bytes now next (item_values n x)
      → AddsEntries bytes (old ++ entry bytes spelled 0 ∷ []) next
      (all_of (item_values n) (xs ++ x ∷ []))
  added_one now next xs x h k =
      subst (AddsEntries bytes (old ++ entry bytes spelled 0 ∷ []) next)
      (sym (all_of-push (item_values n) xs x))
      (adds_then bytes _ now next (all_of (item_values n) xs) (item_values n x) h k)

  pub going : (now next : List Entry) (rest after more : List ℕ)
      → HasRead n d bytes spelled within old now rest
      → IsReadInto (item_values n) bytes now next after (item_at n d rest)
      → separator more ≡ behind_item (nested.closing n) (skip after)
      → HasRead n d bytes spelled within old next more
  going now next rest after more h t k = record {
    read = h.read ++ t.what ∷ [];
    adds = added_one now next h.read t.what h.adds t.adds;
    so_far =
        goes_on (nested.closing n) (item_at n d) (item_shrinks n d) h.read rest (skip after) more
        t.what _ t.is_read k h.so_far;
    ends =
        ends_more bytes (skip after) more (nested.closing n) _ refl
        (item_leaves n d bytes rest (t.what, skip after) h.ends t.is_read) k;
  }

  pub smaller : (now next : List Entry) (rest after more : List ℕ)
      → IsReadInto (item_values n) bytes now next after (item_at n d rest)
      → separator more ≡ behind_item (nested.closing n) (skip after) → length more < length rest
  smaller now next rest after more t k =
      falls (nested.closing n) (item_at n d) (item_shrinks n d) rest (skip after) more t.what
      t.is_read k

  pub done : (now next : List Entry) (rest after more : List ℕ)
      → HasRead n d bytes spelled within old now rest
      → IsReadInto (item_values n) bytes now next after (item_at n d rest)
      → closing (skip more) ≡ behind_item (nested.closing n) (skip after)
      → AllRead n d bytes spelled within old next more
  done now next rest after more h t k = record {
    read = h.read ++ t.what ∷ [];
    adds = added_one now next h.read t.what h.adds t.adds;
    all =
        closes (nested.closing n) (item_at n d) (item_shrinks n d) h.read rest (skip after)
        (skip more) t.what _ t.is_read k h.so_far;
  }

  pub stopped : (now next : List Entry) (rest after : List ℕ)
      → HasRead n d bytes spelled within old now rest
      → IsReadInto (item_values n) bytes now next after (item_at n d rest)
      → neither ≡ behind_item (nested.closing n) (skip after)
      → enclosed (nested.closing n) (item_at n d) (skip within) ≡ None
  stopped now next rest after h t k =
      stops (nested.closing n) (item_at n d) (item_shrinks n d) h.read rest (skip after) t.what _
      t.is_read k h.so_far

  pub failed : (e : JsonError) (now : List Entry) (rest : List ℕ)
      → HasRead n d bytes spelled within old now rest → Fails e (item_at n d rest)
      → Fails e (enclosed (nested.closing n) (item_at n d) (skip within))
  failed e now rest h k =
      ends (nested.closing n) (item_at n d) (item_shrinks n d) e h.read rest _ k h.so_far

  -- the entry of the whole stands before theirs
  pub behind_place : (now : List Entry) (rest : List ℕ)
      → AllRead n d bytes spelled within old now rest → length old < length now
  behind_place now rest a =
      omega (
        arith,
        ap length a.adds.all,
        length-append (old ++ entry bytes spelled 0 ∷ [])
            a.adds.added,
        length-append old (entry bytes spelled 0 ∷ []),
      )

-- the whole, from its items
module _ (n : Nesting) (d : ℕ) (bytes spelled within : List ℕ) (old : List Entry) (less : 0 < d)
    (ends_in : EndsIn bytes spelled) (opens : spelled ≡ opening n ∷ within) where
  pub nested_is_read : (now new : List Entry) (place : ℕ) (rest : List ℕ) → place ≡ length old
      → AllRead n (d - 1) bytes spelled within old now rest
      → new ≡ set now place (entry bytes spelled (length now - place - 1))
      → IsReadInto one bytes old new rest (nested_in n d within)
  nested_is_read now new place rest p a e =
      let is : value_from spelled (all_of (item_values n) a.read) ≡ made n a.read =
      ap (λ (s : List ℕ). value_from s (all_of (item_values n) a.read)) opens
      ∙ value_is n within a.read in
      record {
        what = made n a.read;
        is_read = read_is n d within a.read (skip rest) less a.all;
        adds = subst (λ v. AddsEntries bytes old new (v ∷ [])) is
            (adds_closed bytes spelled place old now new (all_of (item_values n) a.read) ends_in
            (omega (arith, ap length opens))
            (λ k. ap (λ (s : List ℕ). inside_of s k) opens ∙ inside_is n within k)
            (λ k. subst (λ (s : List ℕ). IsTrue (is_extent (form_from s) s k)) (sym opens)
            (told_is n within k)) p a.adds e);
      }

  pub empty_is_read : (new : List Entry) (rest : List ℕ)
      → after_byte (nested.closing n) (skip within) ≡ Some rest
      → new ≡ old ++ entry bytes spelled 0 ∷ []
      → IsReadInto one bytes old new rest (nested_in n d within)
  empty_is_read new rest k e =
      let is : value_from spelled [] ≡ made n [] =
      ap (λ (s : List ℕ). value_from s []) opens ∙ value_is n within [] in
      record {
        what = made n [];
        is_read =
            read_is n d within [] (skip rest) less
            (empty (nested.closing n) (item_at n (d - 1)) (item_shrinks n (d - 1)) (skip within)
            rest k);
        adds =
            subst (λ v. AddsEntries bytes old new (v ∷ [])) is
            (adds_leaf bytes spelled 0 old new ends_in (omega (arith, ap length opens))
            (record {
              nothing = ap (λ (s : List ℕ). inside_of s 0) opens ∙ inside_is n within 0;
              told =
                  subst (λ (s : List ℕ). IsTrue (is_extent (form_from s) s 0)) (sym opens)
                  (told_is n within 0);
            }) e);
      }
