-- The effective members of an object, put together one by one.
use Rattle.std.proofs.Common.{◌≡◌, ℕ, Bool, true, false, not, List, [], ◌∷◌, ◌++◌, map, cond, bytes_eq, refl, ap, sym, ◌∙◌, Some, None, Option, unwrap_or, ◌+◌, ◌<◌, length, take, get_or, Bor, arith}
use Rattle.std.specs.List.{IsDistinct, AllByRecursion}
use Rattle.std.proofs.lemmas.Bool.{false_from_ne_true}
use Rattle.std.proofs.lemmas.List.{take_more, get_or-map, length-map}
use Rattle.std.proofs.lemmas.Map.Made.{IsDistinct-keys_filter}
use Rattle.std.proofs.lemmas.Slice.Eq.{bytes_eq-Decides}
use Rattle.indexmap.specs.IndexMap.{insert_entry}
use Rattle.json_decimal.specs.JsonValue.{JsonValue, later, last_of}
use Rattle.json_decimal.proofs.Last.{last_of-push}
use Rattle.json_decimal.specs.View.{pair_of}
use Rattle.json_decimal.specs.declared.json.Json.{Json}
use Rattle.json_decimal.specs.declared.json.JsonPair.{JsonPair}
use Rattle.meta_schema.proofs.Seen.{Referred, inserted_seen}
use Rattle.meta_schema.specs.Seen.{members_seen}
use Rattle.meta_schema.specs.Members.{Members, names, others, effective_members}

-- ---- the names are distinct

none_of_others : (name : List ℕ) (ms : Members)
    → AllByRecursion (λ other. bytes_eq name other ≡ false) (names (others name ms))
none_of_others name [] = tt
none_of_others name (m ∷ ms) =
    elim (bytes_eq m.0 name) as (λ b. bytes_eq m.0 name ≡ b
    → AllByRecursion (λ other. bytes_eq name other ≡ false)
    (names (cond (not b) (m ∷ others name ms) (others name ms)))) [
      | true ↦ λ e. none_of_others name ms
      | false ↦ λ e. (turned name m.0 e, none_of_others name ms)
    ] refl
  where
    turned : (a b : List ℕ) → bytes_eq b a ≡ false → bytes_eq a b ≡ false
    turned a b e = false_from_ne_true (bytes_eq a b)
        (λ h. let same : a ≡ b = (bytes_eq-Decides a b).0 h in
        let back : bytes_eq b a ≡ true = (bytes_eq-Decides b a).1 (sym same) in cc)

pub names_apart : (ms : Members) → IsDistinct bytes_eq (names (effective_members ms))
unfolding IsDistinct
names_apart [] = tt
names_apart (m ∷ ms) = (
  none_of_others m.0 (effective_members ms),
  IsDistinct-keys_filter bytes_eq (λ k. not (bytes_eq k.0 m.0)) (effective_members ms)
      (names_apart ms),
)

-- ---- one member more

-- among those of other names it isn't seen, where it has the name itself
module _ (name : List ℕ) (q : List ℕ × JsonValue) where
  own_name : bytes_eq q.0 name ≡ true → (ms : Members)
      → others name (insert_entry bytes_eq ms q.0 q.1) ≡ others name ms
  own_name e [] = rw e refl
  own_name e (m ∷ ms) =
      elim (bytes_eq q.0 m.0) as (λ b. bytes_eq q.0 m.0 ≡ b
      → others name (cond b ((m.0, q.1) ∷ ms) (m ∷ insert_entry bytes_eq ms q.0 q.1))
      ≡ others name (m ∷ ms)) [
        | true ↦ λ h.
            let same : bytes_eq m.0 name ≡ true = (bytes_eq-Decides m.0 name).1
            (sym ((bytes_eq-Decides q.0 m.0).0 h) ∙ (bytes_eq-Decides q.0 name).0 e) in
            rw same refl
        | false ↦ λ h.
            ap (λ os. cond (not (bytes_eq m.0 name)) (m ∷ os) os) (own_name e ms)
      ] refl

  other_name : bytes_eq q.0 name ≡ false → (ms : Members)
      → others name (insert_entry bytes_eq ms q.0 q.1)
      ≡ insert_entry bytes_eq (others name ms) q.0 q.1
  other_name e [] = rw e refl
  other_name e (m ∷ ms) =
      elim (bytes_eq q.0 m.0) as (λ b. bytes_eq q.0 m.0 ≡ b
      → others name (cond b ((m.0, q.1) ∷ ms) (m ∷ insert_entry bytes_eq ms q.0 q.1))
      ≡ insert_entry bytes_eq (others name (m ∷ ms)) q.0 q.1) [
        | true ↦ λ h.
            let same : q.0 ≡ m.0 = (bytes_eq-Decides q.0 m.0).0 h in
            let kept : bytes_eq m.0 name ≡ false = ap (λ n. bytes_eq n name) (sym same) ∙ e in
            rw (kept, h) refl
        | false ↦ λ h. behind h (bytes_eq m.0 name) (other_name e ms)
      ] refl
    where
      behind : bytes_eq q.0 m.0 ≡ false → (b : Bool)
          → others name (insert_entry bytes_eq ms q.0 q.1)
          ≡ insert_entry bytes_eq (others name ms) q.0 q.1
          → cond (not b) (m ∷ others name (insert_entry bytes_eq ms q.0 q.1))
          (others name (insert_entry bytes_eq ms q.0 q.1))
          ≡ insert_entry bytes_eq (cond (not b) (m ∷ others name ms) (others name ms)) q.0 q.1
      behind h true same = same
      behind h false same = ap (λ os. m ∷ os) same ∙ rw h refl

pub effective_push : (ms : Members) (q : List ℕ × JsonValue)
    → effective_members (ms ++ q ∷ []) ≡ insert_entry bytes_eq (effective_members ms) q.0 q.1
effective_push [] q = refl
effective_push (m ∷ ms) q =
    let es = effective_members ms in
    let front = λ (v : Option JsonValue) (os : Members). (m.0, unwrap_or v m.1) ∷ others m.0 os in
    ap (λ v. front v (effective_members (ms ++ q ∷ []))) (last_of-push m.0 ms q)
    ∙ ap (front (later (cond (bytes_eq q.0 m.0) (Some q.1) None) (last_of m.0 ms)))
    (effective_push ms q)
    ∙ elim (bytes_eq q.0 m.0) as (λ b. bytes_eq q.0 m.0 ≡ b
    → (m.0, unwrap_or (later (cond b (Some q.1) None) (last_of m.0 ms)) m.1)
    ∷ others m.0 (insert_entry bytes_eq es q.0 q.1)
    ≡ cond b ((m.0, q.1) ∷ others m.0 es)
    ((m.0, unwrap_or (last_of m.0 ms) m.1) ∷ insert_entry bytes_eq (others m.0 es) q.0 q.1)) [
      | true ↦ λ h. ap (λ os. (m.0, q.1) ∷ os) (own_name m.0 q h es)
      | false ↦ λ h. ap (λ os. (m.0, unwrap_or (last_of m.0 ms) m.1) ∷ os) (other_name m.0 q h es)
    ] refl

-- the next pair of an object is put among those before it
pub put_next : (pairs : Members) (items : List JsonPair) (i : ℕ) (p : JsonPair)
    (es after : Referred) (name : Bor (List ℕ)) (value : Bor Json)
    → map pair_of items ≡ pairs → i < length items → p ≡ get_or items i p → name.now ≡ p.name
    → value.now ≡ p.value → members_seen es ≡ effective_members (take i pairs)
    → after ≡ insert_entry (λ a b. bytes_eq a.now b.now) es name value
    → members_seen after ≡ effective_members (take (i + 1) pairs)
put_next pairs items i p es after name value are within at named valued before put =
    let there : i < length pairs = omega (arith, within, ap length are, length-map items pair_of) in
    let is : get_or pairs i (pair_of p) ≡ pair_of p =
    ap (λ ps. get_or ps i (pair_of p)) (sym are)
    ∙ get_or-map pair_of items i p (pair_of p) within ∙ ap pair_of (sym at) in
    ap members_seen put
    ∙ inserted_seen es name value
    ∙ rw (before, named, valued) (sym (effective_push (take i pairs) (pair_of p)))
    ∙ ap (λ q. effective_members (take i pairs ++ q ∷ [])) (sym is)
    ∙ ap effective_members (sym (take_more pairs i (pair_of p) there))
