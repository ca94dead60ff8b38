-- The values of members by their names: what one member after another puts.
use Rattle.std.proofs.Common.{◌≡◌, ℕ, suc, List, [], ◌∷◌, ◌++◌, length, set, map, Option, Some, None, Bool, true, false, cond, refl, sym, ap, ap₂, ◌∙◌, arith, append_assoc, bytes_eq, length-append}
use Rattle.std.proofs.Common.{Bor, ◌+◌, ◌≤◌, drop, add-one, option_map}
use Rattle.std.proofs.lemmas.List.{drop_all, map-set, length-map}
use Rattle.std.proofs.Math.Seq.{set-append_seam}
use Rattle.json_decimal.specs.Handles.{json_of}
use Rattle.json_decimal.specs.Parts.{split_first}
use Rattle.json_decimal.specs.declared.json_ref.JsonRef.{JsonRef}
use Rattle.json_decimal.proofs.Parted.{split_none, split_some}
use Rattle.json_decimal.specs.JsonValue.{JsonValue, later, last_of}
use Rattle.json_decimal.specs.Named.{plain, seen, with_member, lasts}

-- one name after another, the first of which has place i
abbrev pub put_from : List (List ℕ) → ℕ → List (Option JsonValue) → List ℕ × JsonValue
    → List (Option JsonValue)
put_from [] i values m = values
put_from (n ∷ ns) i values m =
    put_from ns (suc i) (cond (bytes_eq m.0 n) (set values i (Some m.1)) values) m

put_here : (b : Bool) (front values : List (Option JsonValue)) (v w : Option JsonValue)
    → cond b (set (front ++ v ∷ values) (length front) w) (front ++ v ∷ values)
    ≡ front ++ cond b w v ∷ values
put_here true front values v w = set-append_seam front v values w
put_here false front values v w = refl

put_from_is : (ns : List (List ℕ)) (front values : List (Option JsonValue)) (m : List ℕ × JsonValue)
    → length values ≡ length ns → put_from ns (length front) (front ++ values) m
    ≡ front ++ with_member ns values m
put_from_is [] front values m h = refl
put_from_is (n ∷ ns) front [] m h = absurd (omega (arith, h))
put_from_is (n ∷ ns) front (v ∷ values) m h =
    let w : Option JsonValue = cond (bytes_eq m.0 n) (Some m.1) v in
    let long : suc (length front) ≡ length (front ++ w ∷ []) =
    omega (arith, length-append front (w ∷ [])) in
    ap (λ l. put_from ns (suc (length front)) l m)
    (put_here (bytes_eq m.0 n) front values v (Some m.1) ∙ sym (append_assoc front (w ∷ []) values))
    ∙ ap (λ i. put_from ns i ((front ++ w ∷ []) ++ values) m) long
    ∙ put_from_is ns (front ++ w ∷ []) values m (omega (arith, h))
    ∙ append_assoc front (w ∷ []) (with_member ns values m)

pub put_all : (ns : List (List ℕ)) (values : List (Option JsonValue)) (m : List ℕ × JsonValue)
    → length values ≡ length ns → put_from ns 0 values m ≡ with_member ns values m
put_all ns values m h = put_from_is ns [] values m h

-- one member after another
abbrev pub with_members : List (List ℕ) → List (Option JsonValue) → List (List ℕ × JsonValue)
    → List (Option JsonValue)
with_members names values [] = values
with_members names values (m ∷ ms) = with_members names (with_member names values m) ms

lasts-none : (names : List (List ℕ)) (values : List (Option JsonValue))
    → lasts names values [] ≡ values
lasts-none [] values = refl
lasts-none (n ∷ ns) [] = refl
lasts-none (n ∷ ns) (v ∷ values) =
    ap (λ (l : List (Option JsonValue)). v ∷ l) (lasts-none ns values)

later-assoc : (o : Option JsonValue) (b : Bool) (x : JsonValue) (v : Option JsonValue)
    → later o (cond b (Some x) v) ≡ later (later o (cond b (Some x) None)) v
later-assoc (Some y) b x v = refl
later-assoc None true x v = refl
later-assoc None false x v = refl

lasts-cons : (names : List (List ℕ)) (values : List (Option JsonValue)) (m : List ℕ × JsonValue)
    (ms : List (List ℕ × JsonValue)) → lasts names (with_member names values m) ms
    ≡ lasts names values (m ∷ ms)
lasts-cons [] values m ms = refl
lasts-cons (n ∷ ns) [] m ms = refl
lasts-cons (n ∷ ns) (v ∷ values) m ms =
    ap₂ (λ a (l : List (Option JsonValue)). a ∷ l)
    (later-assoc (last_of n ms) (bytes_eq m.0 n) m.1 v) (lasts-cons ns values m ms)

pub with_members_are : (names : List (List ℕ)) (values : List (Option JsonValue))
    (ms : List (List ℕ × JsonValue)) → with_members names values ms ≡ lasts names values ms
with_members_are names values [] = sym (lasts-none names values)
with_members_are names values (m ∷ ms) =
    with_members_are names (with_member names values m) ms ∙ lasts-cons names values m ms

later-none : (o : Option JsonValue) → later o None ≡ o
later-none None = refl
later-none (Some v) = refl

-- where nothing stood there before
pub lasts-fresh : (names : List (List ℕ)) (ms : List (List ℕ × JsonValue))
    → lasts names (map (λ _. None) names) ms ≡ map (λ name. last_of name ms) names
lasts-fresh [] ms = refl
lasts-fresh (n ∷ ns) ms =
    ap₂ (λ a (l : List (Option JsonValue)). a ∷ l) (later-none (last_of n ms)) (lasts-fresh ns ms)

-- one name more
pub put_step : (names : List (Bor (List ℕ))) (i : ℕ) (values next : List (Option JsonValue))
    (m : List ℕ × JsonValue) (n : Bor (List ℕ)) → drop i names ≡ n ∷ drop (suc i) names
    → next ≡ cond (bytes_eq m.0 n.now) (set values i (Some m.1)) values
    → put_from (plain (drop (i + 1) names)) (i + 1) next m
    ≡ put_from (plain (drop i names)) i values m
put_step names i values next m n here h =
    ap (λ (k : ℕ). put_from (plain (drop k names)) k next m) (add-one i)
    ∙ ap (λ (vs : List (Option JsonValue)). put_from (plain (drop (suc i) names)) (suc i) vs m) h
    ∙ sym (ap (λ (l : List (Bor (List ℕ))). put_from (plain l) i values m) here)

pub seen_put : (b t : Bool) (values next : List (Option JsonRef)) (i : ℕ) (v : JsonRef) → t ≡ true
    → t ≡ b → next ≡ set values i (Some v)
    → seen next ≡ cond b (set (seen values) i (Some (json_of v))) (seen values)
seen_put b t values next i v h k e =
    ap seen e
    ∙ map-set (option_map json_of) values i (Some v)
    ∙ sym (ap (λ b. cond b (set (seen values) i (Some (json_of v))) (seen values)) (sym k ∙ h))

pub seen_left : (b t : Bool) (values next : List (Option JsonRef)) (i : ℕ) (v : JsonRef) → t ≡ false
    → t ≡ b → next ≡ values → seen next
    ≡ cond b (set (seen values) i (Some (json_of v))) (seen values)
seen_left b t values next i v h k e =
    ap seen e
    ∙ sym (ap (λ b. cond b (set (seen values) i (Some (json_of v))) (seen values)) (sym k ∙ h))

-- all names were gone through
pub put_done : (names : List (Bor (List ℕ))) (i : ℕ) (values old : List (Option JsonValue))
    (m : List ℕ × JsonValue) → length names ≤ i → length old ≡ length names
    → put_from (plain (drop i names)) i values m ≡ put_from (plain names) 0 old m
    → values ≡ with_member (plain names) old m
put_done names i values old m end long h =
    sym (ap (λ (l : List (Bor (List ℕ))). put_from (plain l) i values m) (drop_all i names end))
    ∙ h
    ∙ put_all (plain names) old m (long
    ∙ sym (length-map names (λ (name : Bor (List ℕ)). name.now)))

-- one member more
pub members_step : (names : List (List ℕ)) (values next : List (Option JsonValue))
    (ms left : List (List ℕ × JsonValue)) (m : List ℕ × JsonValue) → Some (m, left) ≡ split_first ms
    → next ≡ with_member names values m
    → with_members names next left ≡ with_members names values ms
members_step names values next ms left m h e =
    ap (λ (vs : List (Option JsonValue)). with_members names vs left) e
    ∙ sym (ap (with_members names values) (split_some ms left m h))

pub members_done : (names : List (List ℕ)) (values old : List (Option JsonValue))
    (ms all : List (List ℕ × JsonValue)) → None ≡ split_first ms
    → with_members names values ms ≡ with_members names old all → values ≡ lasts names old all
members_done names values old ms all h e =
    sym (ap (with_members names values) (split_none ms h)) ∙ e ∙ with_members_are names old all
