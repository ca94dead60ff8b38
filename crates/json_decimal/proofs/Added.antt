-- Entries that are added one after the other.
use Rattle.std.proofs.Common.{◌≡◌, ℕ, suc, ◌+◌, ◌-◌, min, ◌<◌, ◌≤◌, List, [], ◌∷◌, ◌++◌, length, drop, set, Option, Some, None, refl, sym, subst, ap, ◌∙◌, arith, append_assoc, zero-add, length-append}
use Rattle.std.proofs.lemmas.List.{append-nil}
use Rattle.std.proofs.Math.Seq.{drop-append_seam, set-append_seam}
use Rattle.json_decimal.specs.Ascii.{byte_order_mark}
use Rattle.json_decimal.specs.JsonValue.{JsonValue}
use Rattle.json_decimal.specs.Scan.{Reader, skip, after}
use Rattle.json_decimal.specs.Reading.{Behind, separator, behind_item, name_at, pair_at, value_at, whole, or_else, unmarked, value_in}
use Rattle.json_decimal.specs.Grammar.{max_nesting}
use Rattle.json_decimal.specs.Entries.{form_from, value_from, inside_of, inside, values_on, value_on, is_extent, is_entry, AreTextEntries}
use Rattle.json_decimal.specs.ReadsInto.{EndsIn, IsLeaf, Stands, AddsEntries, IsReadInto, entry, one}
use Rattle.json_decimal.specs.declared.entry.Entry.{Entry}
use Rattle.std.specs.Prelude.{IsTrue, nat_lt}
use Rattle.json_decimal.proofs.Told.{both_true, lt_true, entries-cons, entries-append}
use Rattle.json_decimal.proofs.Steps.{bind_some, after_is}
use Rattle.json_decimal.proofs.Rules.{Begins}
use Rattle.json_decimal.proofs.Sound.{Reads, IsBehind, behind_is, skip_begins, NameRead, name_sound, value_sound}

values_on-none : (bytes : List ℕ) (es : List Entry) → values_on bytes es 0 0 ≡ []
values_on-none bytes [] = refl
values_on-none bytes (e ∷ es) = refl

-- behind all of the first entries come the others
pub values_on-past : (bytes : List ℕ) (es more : List Entry) (n : ℕ)
    → values_on bytes (es ++ more) (length es) n ≡ values_on bytes more 0 n
values_on-past bytes [] more n = refl
values_on-past bytes (e ∷ es) more n = values_on-past bytes es more n

stands_nothing : (bytes : List ℕ) → Stands bytes [] []
stands_nothing bytes more n = ap (values_on bytes more 0) (zero-add n)

stands_then : (bytes : List ℕ) (es fs : List Entry) (vs ws : List JsonValue) → Stands bytes es vs
    → Stands bytes fs ws → Stands bytes (es ++ fs) (vs ++ ws)
stands_then bytes es fs vs ws h k more n =
    let regrouped : (es ++ fs) ++ more ≡ es ++ (fs ++ more) = append_assoc es fs more in
    let counted : length (es ++ fs) + n ≡ length es + (length fs + n) =
    omega (arith, length-append es fs) in
    ap (λ (l : List Entry). values_on bytes l 0 (length (es ++ fs) + n)) regrouped
    ∙ ap (values_on bytes (es ++ (fs ++ more)) 0) counted
    ∙ h (fs ++ more) (length fs + n)
    ∙ ap (λ (us : List JsonValue). vs ++ us) (k more n)
    ∙ sym (append_assoc vs ws (values_on bytes more 0 n))

-- an entry, and those of all that is inside it
stands_one : (bytes : List ℕ) (e : Entry) (es : List Entry) (vs : List JsonValue)
    → inside bytes e ≡ length es → Stands bytes es vs
    → Stands bytes (e ∷ es) (value_from (drop e.start bytes) vs ∷ [])
stands_one bytes e es vs i h more n =
    let counted : length (e ∷ es) + n ≡ suc (length es + n) = omega arith in
    let here : values_on bytes (es ++ more) 0 (length es) ≡ vs =
    ap (values_on bytes (es ++ more) 0) (let k : length es ≡ length es + 0 = omega arith in k)
    ∙ h more 0 ∙ ap (λ (us : List JsonValue). vs ++ us) (values_on-none bytes more)
    ∙ append-nil vs in
    let left : (length es + n) - length es ≡ n = omega arith in
    let step : (m : ℕ) → m ≡ length es
    → (value_from (drop e.start bytes)
    (values_on bytes (es ++ more) 0 (min m (length es + n))) ∷ values_on bytes (es ++ more) m
    ((length es + n) - m)) ≡ value_from (drop e.start bytes) vs ∷ values_on bytes more 0 n =
    λ m k. ap (λ (m : ℕ). value_from (drop e.start bytes)
    (values_on bytes (es ++ more) 0 (min m (length es + n))) ∷ values_on bytes (es ++ more) m
    ((length es + n) - m)) k
    ∙ ap (λ (m : ℕ). value_from (drop e.start bytes) (values_on bytes (es ++ more) 0 m) ∷ values_on
    bytes (es ++ more) (length es) ((length es + n) - length es))
    (let q : min (length es) (length es + n) ≡ length es = omega arith in q)
    ∙ ap (λ (us : List JsonValue). value_from (drop e.start bytes) us ∷ values_on bytes (es ++ more)
    (length es) ((length es + n) - length es)) here
    ∙ ap (λ (m : ℕ). value_from (drop e.start bytes) vs ∷ values_on bytes (es ++ more) (length es)
    m) left
    ∙ ap (λ (us : List JsonValue). value_from (drop e.start bytes) vs ∷ us)
    (values_on-past bytes es more n) in
    ap (values_on bytes (e ∷ (es ++ more)) 0) counted ∙ step (inside bytes e) i

pub adds_nothing : (bytes : List ℕ) (old new : List Entry) → new ≡ old
    → AddsEntries bytes old new []
adds_nothing bytes old new e =
    record {
      added = [];
      all = e ∙ sym (append-nil old);
      stands = stands_nothing bytes;
      entries =
          refl;
    }

pub adds_then : (bytes : List ℕ) (a b c : List Entry) (vs ws : List JsonValue)
    → AddsEntries bytes a b vs → AddsEntries bytes b c ws → AddsEntries bytes a c (vs ++ ws)
adds_then bytes a b c vs ws h k = record {
  added = h.added ++ k.added;
  all = k.all ∙ ap (λ (l : List Entry). l ++ k.added) h.all ∙ append_assoc a h.added k.added;
  stands = stands_then bytes h.added k.added vs ws h.stands k.stands;
  entries = entries-append bytes h.added k.added h.entries k.entries;
}

pub drop_front : (bytes back : List ℕ) → EndsIn bytes back
    → drop (length bytes - length back) bytes ≡ back
drop_front bytes back h =
    let count : length bytes - length back ≡ length h.front =
    omega (arith, ap length h.spelled, length-append h.front back) in
    ap (λ (n : ℕ). drop n bytes) count ∙ ap (drop (length h.front)) h.spelled
    ∙ drop-append_seam h.front back

pub back_within : (bytes back : List ℕ) → EndsIn bytes back → length back ≤ length bytes
back_within bytes back h = omega (arith, ap length h.spelled, length-append h.front back)

-- the entry of what is spelled at the end of the bytes
spelled_entry : (bytes spelled : List ℕ) (extent : ℕ) → EndsIn bytes spelled → 0 < length spelled
    → IsTrue (is_extent (form_from spelled) spelled extent)
    → IsTrue (is_entry bytes (entry bytes spelled extent))
spelled_entry bytes spelled extent h some told =
    let at : drop (length bytes - length spelled) bytes ≡ spelled = drop_front bytes spelled h in
    let within : length bytes - length spelled < length bytes =
    omega (arith, back_within bytes spelled h) in
    let P : List ℕ → Type 0 = λ s. IsTrue (is_extent (form_from s) s extent) in
    both_true (nat_lt (length bytes - length spelled) (length bytes))
    (is_extent (form_from (drop (length bytes - length spelled) bytes))
    (drop (length bytes - length spelled) bytes) extent)
    (lt_true (length bytes - length spelled) (length bytes) within)
    (subst P (sym at) told)

-- the entry of what has nothing inside it
pub adds_leaf : (bytes spelled : List ℕ) (extent : ℕ) (old new : List Entry) → EndsIn bytes spelled
    → 0 < length spelled → IsLeaf spelled extent → new ≡ old ++ entry bytes spelled extent ∷ []
    → AddsEntries bytes old new (value_from spelled [] ∷ [])
adds_leaf bytes spelled extent old new h some leaf e =
    let at : drop (length bytes - length spelled) bytes ≡ spelled = drop_front bytes spelled h in
    let k : Stands bytes (entry bytes spelled extent ∷ [])
    (value_from (drop (length bytes - length spelled) bytes) [] ∷ []) =
    stands_one bytes (entry bytes spelled extent) [] []
    (ap (λ (bs : List ℕ). inside_of bs extent) at ∙ leaf.nothing) (stands_nothing bytes) in
    record {
      added = entry bytes spelled extent ∷ [];
      all = e;
      stands =
          subst (λ (bs : List ℕ). Stands bytes (entry bytes spelled extent ∷ [])
          (value_from bs [] ∷ [])) at k;
      entries =
          entries-cons bytes (entry bytes spelled extent) []
          (spelled_entry bytes spelled extent h some leaf.told) refl;
    }

-- the entry of a list or an object, written anew once all that is inside it is there
pub adds_closed : (bytes spelled : List ℕ) (place : ℕ) (old now new : List Entry)
    (vs : List JsonValue) → EndsIn bytes spelled → 0 < length spelled
    → ((n : ℕ) → inside_of spelled n ≡ n)
    → ((n : ℕ) → IsTrue (is_extent (form_from spelled) spelled n)) → place ≡ length old
    → AddsEntries bytes (old ++ entry bytes spelled 0 ∷ []) now vs
    → new ≡ set now place (entry bytes spelled (length now - place - 1))
    → AddsEntries bytes old new (value_from spelled vs ∷ [])
adds_closed bytes spelled place old now new vs h some i told p a e =
    let es : List Entry = a.added in
    let before : now ≡ old ++ (entry bytes spelled 0 ∷ a.added) =
    a.all ∙ append_assoc old (entry bytes spelled 0 ∷ []) a.added in
    let count : length now - place - 1 ≡ length a.added =
    omega (arith, ap length before, length-append old (entry bytes spelled 0 ∷ a.added), p) in
    let at : drop (length bytes - length spelled) bytes ≡ spelled = drop_front bytes spelled h in
    let k : Stands bytes (entry bytes spelled (length a.added) ∷ a.added)
    (value_from (drop (length bytes - length spelled) bytes) vs ∷ []) =
    stands_one bytes (entry bytes spelled (length a.added)) a.added vs
    (ap (λ (bs : List ℕ). inside_of bs (length a.added)) at ∙ i (length a.added)) a.stands in
    record {
      added = entry bytes spelled (length a.added) ∷ a.added;
      all = e
          ∙ ap (λ (n : ℕ). set now place (entry bytes spelled n)) count
          ∙ ap (λ (n : ℕ). set now n (entry bytes spelled (length a.added))) p
          ∙ ap (λ (l : List Entry). set l (length old) (entry bytes spelled (length a.added)))
          before
          ∙ set-append_seam old (entry bytes spelled 0) a.added
          (entry bytes spelled (length a.added));
      stands =
          subst (λ (bs : List ℕ). Stands bytes (entry bytes spelled (length a.added) ∷ a.added)
          (value_from bs vs ∷ [])) at k;
      entries =
          entries-cons bytes (entry bytes spelled (length a.added)) a.added
          (spelled_entry bytes spelled (length a.added) h some (told (length a.added))) a.entries;
    }

-- what is left of the bytes behind a step
pub ends_behind : (bytes bs text rest : List ℕ) → EndsIn bytes bs → bs ≡ text ++ rest
    → EndsIn bytes rest
ends_behind bytes bs text rest h e =
    record {
      front = h.front ++ text;
      spelled = h.spelled ∙ ap (λ (s : List ℕ). h.front ++ s) e
          ∙ sym (append_assoc h.front text rest);
    }

pub ends_skip : (bytes bs : List ℕ) → EndsIn bytes bs → EndsIn bytes (skip bs)
ends_skip bytes bs h =
    let k : Begins _ bs (skip bs) =
    skip_begins bs in ends_behind bytes bs k.text (skip bs) h k.spelled

-- what a reader leaves is the end of what it reads from
abbrev pub Leaves : {A : Type 0} → Reader A → Type 0
Leaves {A} p =
    (bytes bs : List ℕ) (x : A × List ℕ) → EndsIn bytes bs → p bs ≡ Some x → EndsIn bytes x.1

pub value_leaves : (d : ℕ) → Leaves (value_at d)
value_leaves d bytes bs x h e =
    let r : Reads _ bs x = value_sound d bs x e in
    ends_behind bytes bs (r.text ++ r.blank) x.1 h
    (r.spelled ∙ sym (append_assoc r.text r.blank x.1))

pub name_leaves : Leaves name_at
name_leaves bytes bs x h e =
    let r : NameRead bs x = name_sound bs x e in
    ends_behind bytes bs (r.string ++ r.colons) x.1 h
    (r.spelled ∙ sym (append_assoc r.string r.colons x.1))

pub pair_leaves : (d : ℕ) → Leaves (pair_at (value_at d))
pair_leaves d bytes bs x h e =
    let P : (List ℕ × JsonValue) × List ℕ → Type 0 = λ x. EndsIn bytes x.1 in
    bind_some (name_at bs) _ P (λ n f z k. bind_some (value_at d n.1) _ P (λ v g z k.
    let same : v.1 ≡ z.1 = cc in
    subst (EndsIn bytes) same (value_leaves d bytes n.1 v (name_leaves bytes bs n h f) g)) z k) x e

pub ends_more : (bytes bs more : List ℕ) (close : ℕ) (next : Behind) → next ≡ behind_item close bs
    → EndsIn bytes bs → separator more ≡ next → EndsIn bytes more
ends_more bytes bs more close next e h k =
    let P : Behind → Type 0 = IsBehind close bs in
    let b : IsBehind close bs (separator more) = subst P (sym (k ∙ e)) (behind_is close bs) in
    ends_behind bytes bs (44 ∷ b.0) more h b.2

-- the value that all entries stand for
pub whole_is : (bytes : List ℕ) (new : List Entry) (v : JsonValue)
    → AddsEntries bytes [] new (v ∷ []) → value_on bytes new ≡ v
whole_is bytes new v h =
    first_is new v (λ more n. subst (λ (l : List Entry). values_on bytes (l ++ more) 0
    (length l + n) ≡ v ∷ values_on bytes more 0 n) (sym h.all) (h.stands more n))
  where
    first_is : (es : List Entry) (v : JsonValue) → Stands bytes es (v ∷ []) → value_on bytes es ≡ v
    first_is [] v h = let k : [] ≡ v ∷ [] = h [] 0 in cc
    first_is (e ∷ es) v h =
        let counted : length (e ∷ es) + 0 ≡ suc (length es) = omega arith in
        let k : value_from (drop e.start bytes)
        (values_on bytes (es ++ []) 0 (min (inside bytes e) (length es))) ∷ values_on bytes
        (es ++ []) (inside bytes e) (length es - inside bytes e) ≡ v ∷ [] =
        sym (ap (values_on bytes (e ∷ (es ++ [])) 0) counted) ∙ h [] 0 in
        let j : value_from (drop e.start bytes)
        (values_on bytes (es ++ []) 0 (min (inside bytes e) (length es))) ≡ v = cc in
        ap (λ (l : List Entry). value_from (drop e.start bytes)
        (values_on bytes l 0 (min (inside bytes e) (length es)))) (sym (append-nil es)) ∙ j

-- the whole text
unmarked_by : (bytes : List ℕ) (r : Option (List ℕ)) → after byte_order_mark bytes ≡ r
    → EndsIn bytes (or_else bytes r)
unmarked_by bytes None h = record { front = []; spelled = refl }
unmarked_by bytes (Some rest) h =
    record { front = byte_order_mark; spelled = after_is byte_order_mark bytes rest h }

pub ends_text : (bytes spelled : List ℕ) → spelled ≡ skip (unmarked bytes) → EndsIn bytes spelled
ends_text bytes spelled e =
    subst (EndsIn bytes) (sym e) (ends_skip bytes (unmarked bytes)
    (unmarked_by bytes (after byte_order_mark bytes) refl))

no_bytes : (bs : List ℕ) → length bs ≡ 0 → bs ≡ []
no_bytes [] h = refl
no_bytes (b ∷ bs) h = absurd (omega (arith, h))

pub text_is_read : (bytes spelled rest : List ℕ) (old new : List Entry)
    → spelled ≡ skip (unmarked bytes) → length (skip rest) ≡ 0 → old ≡ []
    → IsReadInto one bytes old new rest (value_at max_nesting spelled)
    → value_in bytes ≡ Some (value_on bytes new)
unfolding value_in
text_is_read bytes spelled rest old new e none first t =
    let adds : AddsEntries bytes [] new (t.what ∷ []) =
    subst (λ (l : List Entry). AddsEntries bytes l new (t.what ∷ [])) first t.adds in
    ap (λ (s : List ℕ). whole (value_at max_nesting s)) (sym e)
    ∙ ap whole (t.is_read ∙ ap (λ (s : List ℕ). Some (t.what, s)) (no_bytes (skip rest) none))
    ∙ ap Some (sym (whole_is bytes new t.what adds))

added_some : (bytes : List ℕ) (es : List Entry) (v : JsonValue) → Stands bytes es (v ∷ [])
    → 0 < length es
added_some bytes [] v h = let k : [] ≡ v ∷ [] = h [] 0 in cc
added_some bytes (e ∷ es) v h = omega arith

pub text_entries : (bytes rest : List ℕ) (old new : List Entry) (read : Option (JsonValue × List ℕ))
    → old ≡ [] → IsReadInto one bytes old new rest read → AreTextEntries bytes new
text_entries bytes rest old new read first t =
    let adds : AddsEntries bytes [] new (t.what ∷ []) =
    subst (λ (l : List Entry). AddsEntries bytes l new (t.what ∷ [])) first t.adds in
    subst (AreTextEntries bytes) (sym adds.all)
    (record { some = added_some bytes adds.added t.what adds.stands; told = adds.entries })
