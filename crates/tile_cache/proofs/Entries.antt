-- What is kept at an address, and the residents.
use Rattle.std.specs.Prelude.{option_map}
use Rattle.std.proofs.Common.{ℕ, ◌≡◌, Bool, true, false, not, cond, Option, Some, None, is_some}
use Rattle.std.proofs.Common.{◌||◌}
use Rattle.std.proofs.Common.{List, [], ◌∷◌, ◌++◌, filter, find, refl, sym, ap, ◌∙◌}
use Rattle.std.specs.List.{IsDistinct}
use Rattle.std.specs.Option.{option_map_or}
use Rattle.std.specs.Map.{keys_of, lookup, lookup_entry, remove_entry, set_value}
use Rattle.std.specs.Cmp.Lexicographic.{nat_list_eq_equiv}
use Rattle.std.proofs.lemmas.Map.{NonePasses}
use Rattle.std.proofs.lemmas.Map.Entries.{none_past_head}
use Rattle.std.proofs.lemmas.Map.Keys.{IsDistinct-tail}
use Rattle.lru.specs.LruCache.{promoted}
use Rattle.tile_cache.specs.declared.entry.Entry.{Entry}
use Rattle.tile_cache.specs.Residents.{same_text, has_address, content_at, moved_up}
use Rattle.tile_cache.specs.Kept.{KeptEntry, resident, resident_of, residents_in}
use Rattle.tile_cache.proofs.Texts.{text_turned}

-- the entry has this address
abbrev pub is_at : List ℕ → KeptEntry → Bool
is_at address e = same_text e.0 address

pub contains_is : (es : List KeptEntry) (a : List ℕ)
    → is_some (lookup (same_text a) es) ≡ has_address (residents_in es) a
contains_is [] a = refl
contains_is (e ∷ es) a =
    ap (λ t. is_some (cond t (Some e.1) (lookup (same_text a) es))) (text_turned a e.0)
    ∙ by (same_text e.0 a) (contains_is es a)
  where
    by : (b : Bool) → is_some (lookup (same_text a) es) ≡ has_address (residents_in es) a
        → is_some (cond b (Some e.1) (lookup (same_text a) es))
        ≡ (b || has_address (residents_in es) a)
    by true h = refl
    by false h = h

pub content_is : (es : List KeptEntry) (a : List ℕ)
    → option_map (λ v. v.content) (lookup (same_text a) es) ≡ content_at (residents_in es) a
content_is [] a = refl
content_is (e ∷ es) a =
    ap (λ t. option_map (λ v. v.content) (cond t (Some e.1) (lookup (same_text a) es)))
    (text_turned a e.0)
    ∙ by (same_text e.0 a) (content_is es a)
  where
    by : (b : Bool)
        → option_map (λ v. v.content) (lookup (same_text a) es) ≡ content_at (residents_in es) a
        → option_map (λ v. v.content) (cond b (Some e.1) (lookup (same_text a) es))
        ≡ option_map (λ r. r.content) (cond b (Some (resident_of e))
        (find (λ r. same_text r.address a) (residents_in es)))
    by true h = refl
    by false h = h

-- nothing is kept where no content is resident
pub not_kept : (es : List KeptEntry) (a : List ℕ) → has_address (residents_in es) a ≡ false
    → lookup_entry (same_text a) es ≡ None
not_kept [] a h = refl
not_kept (e ∷ es) a h = by (same_text e.0 a) refl (not_kept es a) h
  where
    by : (b : Bool) → same_text e.0 a ≡ b
        → (has_address (residents_in es) a ≡ false → lookup_entry (same_text a) es ≡ None)
        → (b || has_address (residents_in es) a) ≡ false
        → lookup_entry (same_text a) (e ∷ es) ≡ None
    by true t rest g = cc
    by false t rest g =
        ap (λ u. cond u (Some e) (lookup_entry (same_text a) es)) (text_turned a e.0 ∙ t) ∙ rest g

-- ---- filters by the address

-- no entry has the address
pub none_at : (es : List KeptEntry) (a : List ℕ) → NonePasses (same_text a) es
    → (filter (is_at a) es ≡ []) × (filter (λ e. not (is_at a e)) es ≡ es)
none_at [] a h = (refl, refl)
none_at (e ∷ es) a h =
    let rest = none_at es a h.1 in
    let other : same_text e.0 a ≡ false = text_turned e.0 a ∙ h.0 in (
      ap (λ t. cond t (e ∷ filter (is_at a) es) (filter (is_at a) es)) other ∙ rest.0,
      ap (λ t. cond (not t) (e ∷ filter (λ x. not (is_at a x)) es)
          (filter (λ x. not (is_at a x)) es)) other ∙ ap (λ xs. e ∷ xs) rest.1,
    )

pub remove_is : (es : List KeptEntry) (a : List ℕ) → IsDistinct same_text (keys_of es)
    → remove_entry (same_text a) es ≡ filter (λ e. not (is_at a e)) es
remove_is [] a d = refl
remove_is (e ∷ es) a d =
    by (same_text a e.0) refl (remove_is es a (IsDistinct-tail same_text e.0 (keys_of es) d))
  where
    by : (b : Bool) → same_text a e.0 ≡ b
        → remove_entry (same_text a) es ≡ filter (λ x. not (is_at a x)) es
        → remove_entry (same_text a) (e ∷ es) ≡ filter (λ x. not (is_at a x)) (e ∷ es)
    by true t h =
        ap (λ u. cond u es (e ∷ remove_entry (same_text a) es)) t
        ∙ sym ((none_at es a (none_past_head nat_list_eq_equiv a e es d t)).1)
        ∙ sym (ap (λ u. cond (not u) (e ∷ filter (λ x. not (is_at a x)) es)
        (filter (λ x. not (is_at a x)) es)) (text_turned e.0 a ∙ t))
    by false t h =
        ap (λ u. cond u es (e ∷ remove_entry (same_text a) es)) t
        ∙ ap (λ xs. e ∷ xs) h
        ∙ sym (ap (λ u. cond (not u) (e ∷ filter (λ x. not (is_at a x)) es)
        (filter (λ x. not (is_at a x)) es)) (text_turned e.0 a ∙ t))

none_found : (es : List KeptEntry) (a : List ℕ) → lookup_entry (same_text a) es ≡ None
    → NonePasses (same_text a) es
none_found [] a e = tt
none_found (x ∷ xs) a e = by (same_text a x.0) refl (none_found xs a) e
  where
    by : (b : Bool) → same_text a x.0 ≡ b
        → (lookup_entry (same_text a) xs ≡ None → NonePasses (same_text a) xs)
        → cond b (Some x) (lookup_entry (same_text a) xs) ≡ None
        → NonePasses (same_text a) (x ∷ xs)
    by true t rest h = cc
    by false t rest h = (t, rest h)

found_alone : (es : List KeptEntry) (a : List ℕ) (x : KeptEntry)
    → IsDistinct same_text (keys_of es)
    → lookup_entry (same_text a) es ≡ Some x → filter (is_at a) es ≡ x ∷ []
found_alone [] a x d e = cc
found_alone (y ∷ ys) a x d e =
    by (same_text a y.0) refl
    (found_alone ys a x (IsDistinct-tail same_text y.0 (keys_of ys) d)) e
  where
    at : (b : Bool) → same_text a y.0 ≡ b
        → filter (is_at a) (y ∷ ys) ≡ cond b (y ∷ filter (is_at a) ys) (filter (is_at a) ys)
    at b t = ap (λ u. cond u (y ∷ filter (is_at a) ys) (filter (is_at a) ys))
        (text_turned y.0 a ∙ t)

    by : (b : Bool) → same_text a y.0 ≡ b
        → (lookup_entry (same_text a) ys ≡ Some x → filter (is_at a) ys ≡ x ∷ [])
        → cond b (Some y) (lookup_entry (same_text a) ys) ≡ Some x
        → filter (is_at a) (y ∷ ys) ≡ x ∷ []
    by true t rest h =
        let same : y ≡ x = cc in
        at true t
        ∙ ap (λ xs. y ∷ xs) ((none_at ys a (none_past_head nat_list_eq_equiv a y ys d t)).0)
        ∙ ap (λ v. v ∷ []) same
    by false t rest h = at false t ∙ rest h

-- what is found goes to the front, or nothing moves
pub promoted_is : (es : List KeptEntry) (a : List ℕ) → IsDistinct same_text (keys_of es)
    → promoted (same_text a) es ≡ filter (is_at a) es ++ filter (λ e. not (is_at a e)) es
promoted_is es a d = by (lookup_entry (same_text a) es) refl
  where
    by : (o : Option KeptEntry) → lookup_entry (same_text a) es ≡ o
        → option_map_or (λ e. e ∷ remove_entry (same_text a) es) o es
        ≡ filter (is_at a) es ++ filter (λ e. not (is_at a e)) es
    by None e =
        let none = none_at es a (none_found es a e) in
        sym (ap (λ xs. xs ++ filter (λ e. not (is_at a e)) es) none.0 ∙ none.1)
    by (Some x) e =
        ap (λ xs. x ∷ xs) (remove_is es a d)
        ∙ sym (ap (λ xs. xs ++ filter (λ e. not (is_at a e)) es) (found_alone es a x d e))

-- a filter by the address is one of the residents
pub residents-filter : (p : List ℕ → Bool) (es : List KeptEntry)
    → residents_in (filter (λ e. p e.0) es) ≡ filter (λ r. p r.address) (residents_in es)
residents-filter p [] = refl
residents-filter p (e ∷ es) = by (p e.0) (residents-filter p es)
  where
    by : (b : Bool)
        → residents_in (filter (λ x. p x.0) es) ≡ filter (λ r. p r.address) (residents_in es)
        → residents_in (cond b (e ∷ filter (λ x. p x.0) es) (filter (λ x. p x.0) es))
        ≡ cond b (resident_of e ∷ filter (λ r. p r.address) (residents_in es))
        (filter (λ r. p r.address) (residents_in es))
    by true h = ap (λ xs. resident_of e ∷ xs) h
    by false h = h

pub residents-append : (xs ys : List KeptEntry)
    → residents_in (xs ++ ys) ≡ residents_in xs ++ residents_in ys
residents-append [] ys = refl
residents-append (x ∷ xs) ys = ap (λ rs. resident_of x ∷ rs) (residents-append xs ys)

pub moved_up_is : (es : List KeptEntry) (a : List ℕ) → IsDistinct same_text (keys_of es)
    → residents_in (promoted (same_text a) es) ≡ moved_up (residents_in es) a
moved_up_is es a d =
    ap residents_in (promoted_is es a d)
    ∙ residents-append (filter (is_at a) es) (filter (λ e. not (is_at a e)) es)
    ∙ ap (λ rs. rs ++ residents_in (filter (λ e. not (is_at a e)) es))
    (residents-filter (λ x. same_text x a) es)
    ∙ ap (λ rs. filter (λ r. same_text r.address a) (residents_in es) ++ rs)
    (residents-filter (λ x. not (same_text x a)) es)

-- another value with the same content leaves the residents as they are
pub residents-set_value : (es : List KeptEntry) (a : List ℕ) (v w : Entry)
    → lookup (same_text a) es ≡ Some v → w.content ≡ v.content
    → residents_in (set_value (same_text a) es w) ≡ residents_in es
residents-set_value [] a v w e c = refl
residents-set_value (x ∷ xs) a v w e c =
    by (same_text a x.0) (λ h. residents-set_value xs a v w h c) e
  where
    by : (b : Bool)
        → (lookup (same_text a) xs ≡ Some v
        → residents_in (set_value (same_text a) xs w) ≡ residents_in xs)
        → cond b (Some x.1) (lookup (same_text a) xs) ≡ Some v
        → residents_in (cond b ((x.0, w) ∷ xs) (x ∷ set_value (same_text a) xs w))
        ≡ residents_in (x ∷ xs)
    by true rest h =
        let same : x.1 ≡ v = cc in
        ap (λ content. resident x.0 content ∷ residents_in xs)
        (c ∙ ap (λ u. u.content) (sym same))
    by false rest h = ap (λ rs. resident_of x ∷ rs) (rest h)
