-- Below a web address a plain text stands for the base's text up to the last slash of its path, and
-- the text.
use Rattle.std.proofs.Common.{◌≡◌, ◌≢◌, ℕ, ◌-◌, ◌<◌, true, false, cond, not, ◌&&◌, ◌||◌, ◌==◌, ltb, List, [], ◌∷◌, ◌++◌, length, get_or, take, drop, Some, None, Ok, All, sym, refl, ap, ◌∙◌, subst, inl, ⊎_elim, append_assoc, append-nil, arith, length-append, take_all}
use Rattle.std.specs.Prelude.{Option, reverse, is_some, bytes_eq, codes}
use Rattle.std.specs.List.{concat, prefix_len}
use Rattle.std.proofs.lemmas.Bool.{cond-true, cond-false, cases_Bool, cases_eq, true≢false, lt-leb, and_parts, and_left, and_right, ne_eqb}
use Rattle.std.proofs.lemmas.Bool.Decides.{nat_tests}
use Rattle.std.proofs.lemmas.List.{get_or-reverse, length-reverse}
use Rattle.std.proofs.Math.Nat.{sub-zero}
use Rattle.std.proofs.Math.ListN.{get_or-eq_default}
use Rattle.std.proofs.lemmas.List.Elements.{All-nil, All-cons, All-head, All-append, All-weaker}
use Rattle.std.proofs.lemmas.Grind.{flat_map-append}
use Rattle.percent_encoding.specs.Percent.{IsKept}
use Rattle.url.specs.declared.sets.TheConstants.{PATH}
use Rattle.url.specs.declared.scheme.SchemeType.{SchemeType}
use Rattle.url.specs.declared.scheme.SchemeType.TheVariants.{SpecialNotFile, NotSpecial}
use Rattle.url.specs.Input.{is_c0_control_or_space, is_tab_or_new_line, trim_c0_control_and_space, strip_tabs_and_new_lines, split_once}
use Rattle.url.specs.Scheme.{default_port, scheme_type, is_special, is_file, is_slash, scheme_len}
use Rattle.url.specs.Path.{dot_count, without_last_segment, shorten_path, parse_path, IsSegment, join_segments, IsSegmentList}
use Rattle.url.specs.Parts.{Parts, kind_of, has_authority, pieces, serialize, IsValid}
use Rattle.url.specs.Parser.{Parsed, and_then, with_path, inherit, leading_slashes, after_double_slash, after_slashes, parse_relative, parse_body, parse_parts, parse_by_scheme, split_scheme, with_tail, before_tail, parse_url}
use Rattle.url.proofs.InputLemmas.{Passes, IsNot, split_once_none, filter_all, is_empty_nonempty}
use Rattle.url.proofs.SetLemmas.{kept_from_passes}
use Rattle.url.proofs.PathLemmas.{IsNoSlash, empty_segment, without_last_valid}
use Rattle.url.proofs.RoundTrip.{stays_unless_file, parse_own_segments}
use Rattle.url.proofs.LayoutLemmas.{IsValidHead_same}
use Rattle.url.proofs.ValidLemmas.{hierarchical, special_has_authority, base_from_authority}
use Rattle.url.specs.Canonical.{IsCanonical}
use Rattle.std.proofs.lemmas.List.Folds.{list_any-append}
use Rattle.std.proofs.lemmas.Bool.{or_from, and_from}
use Rattle.url.proofs.InputLemmas.{list_any_none}
use Rattle.url.specs.Input.{is_c0_control_or_space}
use Rattle.url.proofs.Theorems.{parse_url-serialize_special}
use Rattle.tile_uri.specs.Addresses.{IsPathAddress, ends_in_json, has_json_path, is_external, is_text_of, has_control_or_space, is_address, address_in, join, within_limit}
use Rattle.tile_uri.specs.Bases.{IsBase, IsFolder, folder_of}
use Rattle.tile_uri.specs.PlainPaths.{is_plain_byte, is_plain_behind, is_plain_path}
use Rattle.tile_uri.proofs.CheckedTexts.{is_text, join_parsed}
use Rattle.tile_uri.proofs.JsonEnds.{ends_in_json-behind_slash}

-- ---- the segments of a plain text

-- a plain byte that is no slash
abbrev IsInner : ℕ → Type 0
IsInner b = (is_plain_byte b ≡ true) × (b ≢ 47)

starts_plainly : (b : ℕ) (rest : List ℕ) → IsInner b → b ≢ 46 → dot_count (b ∷ rest) ≡ 0
unfolding dot_count
starts_plainly b rest inner other =
    let escape : (b == 37) ≡ false = grind (arith, nat_tests) in
    rw (ne_eqb b 46 other, escape) refl

segment_of : (kind : SchemeType) (front : List ℕ) → All IsInner front → get_or front 0 0 ≢ 46
    → IsSegment kind front
segment_of kind [] inner start = empty_segment kind
segment_of kind (b ∷ front) inner start = record {
  escaped = All-weaker IsInner (IsKept PATH)
      (λ x h. kept_from_passes is_plain_byte PATH refl x (grind (arith, nat_tests)) h.0)
      (b ∷ front) inner;
  whole = All-weaker IsInner (IsNoSlash kind) (λ x h. grind (arith, nat_tests)) (b ∷ front) inner;
  resolved = starts_plainly b front (All-head IsInner b front inner) start;
}

-- a text cut at its slashes: what may be the rest of a segment, and whole segments
record Cut (kind : SchemeType) (before : ℕ) (text : List ℕ) : Type 0 where
  front : List ℕ
  rest : List (List ℕ)
  is : text ≡ front ++ join_segments rest
  inner : All IsInner front
  start : before ≡ 47 → get_or front 0 0 ≢ 46
  each : All (IsSegment kind) rest

cut : (kind : SchemeType) (before : ℕ) (text : List ℕ) → is_plain_behind before text ≡ true
    → Cut kind before text
cut kind before [] plain = record {
  front = [];
  rest = [];
  is = refl;
  inner = All-nil IsInner;
  start = λ e dot. omega arith;
  each = All-nil (IsSegment kind);
}
cut kind before (b ∷ text) plain =
    let both = and_parts _ _ plain in
    let here = and_parts _ _ both.0 in
    let later = cut kind b text both.1 in
    ⊎_elim
    (λ (slash : b ≡ 47). record {
      front = [];
      rest = later.front ∷ later.rest;
      is = λ i. slash i ∷ later.is i;
      inner = All-nil IsInner;
      start = λ e dot. omega arith;
      each = All-cons (IsSegment kind) later.front later.rest
          (segment_of kind later.front later.inner (later.start slash)) later.each;
    })
    (λ (other : b ≢ 47). record {
      front = b ∷ later.front;
      rest = later.rest;
      is = ap (λ l. b ∷ l) later.is;
      inner = All-cons IsInner b later.front (here.0, other) later.inner;
      start = λ e dot.
          let is_dot : b ≡ 46 = dot in
          let no : not (before == 47 && (b == 46 || b == 47)) ≡ true = here.1 in
          grind (arith, nat_tests);
      each = later.each;
    })
    (cases_eq b 47)

pub all_plain : (before : ℕ) (text : List ℕ) → is_plain_behind before text ≡ true
    → All (Passes is_plain_byte) text
all_plain before [] plain = All-nil (Passes is_plain_byte)
all_plain before (b ∷ text) plain =
    let both = and_parts _ _ plain in
    All-cons (Passes is_plain_byte) b text (and_parts _ _ both.0).0 (all_plain b text both.1)

-- ---- nothing is trimmed, stripped or split

abbrev IsAbove : ℕ → Type 0
IsAbove b = 32 < b

none_at_front : (xs : List ℕ) → (0 < length xs → 32 < get_or xs 0 0)
    → prefix_len is_c0_control_or_space xs ≡ 0
none_at_front [] first = refl
none_at_front (x ∷ xs) first = cond-false _ _ _ (lt-leb x 32 (first (omega arith)))

untrimmed : (xs : List ℕ) → All IsAbove xs → trim_c0_control_and_space xs ≡ xs
unfolding trim_c0_control_and_space
untrimmed xs above =
    let start = none_at_front xs (λ inside. above 0 0 inside) in
    let len = length-reverse xs in
    let end = none_at_front (reverse xs)
    (λ inside. rw (get_or-reverse xs 0 0 (omega arith), sub-zero)
    (above (length xs - 1) 0 (omega arith))) in
    rw (start, end) (take_all _ xs (omega arith))

unstripped : (xs : List ℕ) → All IsAbove xs → strip_tabs_and_new_lines xs ≡ xs
unfolding strip_tabs_and_new_lines
unstripped xs above =
    filter_all _ xs
    (All-weaker IsAbove (Passes (λ b. not (is_tab_or_new_line b)))
    (λ b h. grind (arith, nat_tests)) xs above)

no_colon : (text : List ℕ) (n : ℕ) → All (Passes is_plain_byte) text
    → (get_or text n 0 == 58) ≡ false
no_colon text n plain =
    ⊎_elim
    (λ (inside : ltb n (length text) ≡ true).
    let here = plain n 0 (grind (arith, nat_tests)) in
    grind (arith, nat_tests))
    (λ (outside : ltb n (length text) ≡ false).
    let none = get_or-eq_default text 0 {n = n} (grind (arith, nat_tests)) in
    rw none refl)
    (cases_Bool (ltb n (length text)))

no_scheme : (text : List ℕ) → All (Passes is_plain_byte) text → split_scheme text ≡ None
unfolding split_scheme
no_scheme text plain = cond-false _ _ _ (and_right _ _ (no_colon text (scheme_len text) plain))

-- ---- the path

abbrev pub placed : Parts → List ℕ → Parts
placed base text = record base
    { path = without_last_segment base.path ++ 47 ∷ text; query = None; fragment = None }

stays_whole : (path text : List ℕ) → is_plain_behind 47 text ≡ true
    → parse_path SpecialNotFile path text ≡ path ++ 47 ∷ text
stays_whole path text plain =
    let kind = SpecialNotFile in
    let c = cut kind 47 text plain in
    ap (parse_path kind path) c.is
    ∙ parse_own_segments kind path c.front c.rest (stays_unless_file kind path c.front refl)
    (segment_of kind c.front c.inner (c.start refl)) c.each
    ∙ ap (λ t. path ++ 47 ∷ t) (sym c.is)

shortened : (path : List ℕ) → shorten_path SpecialNotFile path ≡ without_last_segment path
unfolding shorten_path
shortened path = refl

no_slashes : (text : List ℕ) → 0 < length text → get_or text 0 0 ≢ 47
    → All (Passes is_plain_byte) text → leading_slashes SpecialNotFile text ≡ 0
unfolding leading_slashes
no_slashes [] some first plain = absurd (omega arith)
no_slashes (b ∷ text) some first plain =
    let here = All-head (Passes is_plain_byte) b text plain in
    let other : b ≢ 47 = first in
    let none : is_slash SpecialNotFile b ≡ false = grind (arith, nat_tests) in
    cond-false _ _ _ none

-- the body is read against the base
relative : (base : Parts) (text : List ℕ) → kind_of base ≡ SpecialNotFile → 0 < length text
    → get_or text 0 0 ≢ 47 → is_plain_behind 47 text ≡ true
    → parse_relative base text
    ≡ Ok (with_path (inherit base true) (without_last_segment base.path ++ 47 ∷ text))
unfolding parse_relative
relative base text kind some first plain =
    let all = all_plain 47 text plain in
    let go = λ (n : ℕ). let start = inherit base (n == 0) in
    cond (n == 2) (after_double_slash base.scheme (after_slashes (kind_of base) text))
    (Ok (with_path start (parse_path (kind_of base) start.path (drop n text)))) in
    let none : leading_slashes (kind_of base) text ≡ 0 = ap (λ k. leading_slashes k text) kind
    ∙ no_slashes text some first all in
    ap go none ∙ ap
    (λ k. Ok (with_path (inherit base true) (parse_path k (shorten_path k base.path) text))) kind
    ∙ ap (λ p. Ok (with_path (inherit base true) (parse_path SpecialNotFile p text)))
    (shortened base.path)
    ∙ ap (λ p. Ok (with_path (inherit base true) p))
    (stays_whole (without_last_segment base.path) text plain)

no_tail : (url : Parts) → before_tail url None None ≡ url
no_tail url = cond-false _ _ _ (and_right _ _ refl)

-- a plain text and no scheme, query or fragment
parsed_body : (base : Parts) (text : List ℕ) → IsValid base → kind_of base ≡ SpecialNotFile
    → 0 < length text → get_or text 0 0 ≢ 47 → is_plain_behind 47 text ≡ true
    → parse_by_scheme None (Some base) text None None ≡ Ok (placed base text)
unfolding parse_parts parse_body
parsed_body base text valid kind some first plain =
    let authority = special_has_authority base valid.head (ap is_special kind) in
    let finish = λ (r : Parsed Parts). and_then r
    (λ url. Ok (with_tail (before_tail url None None) None None)) in
    let body : parse_body base.scheme (Some base) text
    ≡ Ok (with_path (inherit base true) (without_last_segment base.path ++ 47 ∷ text)) =
    cond-false _ _ _ (ap is_file kind) ∙ relative base text kind some first plain in
    cond-false _ _ _ (and_left _ _ (base_from_authority base authority))
    ∙ cond-false _ _ _ (is_empty_nonempty text some)
    ∙ ap finish body
    ∙ ap (λ url. Ok (with_tail url None None))
    (no_tail (with_path (inherit base true) (without_last_segment base.path ++ 47 ∷ text)))

no_slash_first : (text : List ℕ) → 0 < length text → is_plain_behind 47 text ≡ true
    → get_or text 0 0 ≢ 47
no_slash_first [] some plain = absurd (omega arith)
no_slash_first (b ∷ text) some plain =
    let both : (is_plain_byte b && not (47 == 47 && (b == 46 || b == 47)) ≡ true) ×
    (is_plain_behind b text ≡ true) = and_parts _ _ plain in
    let no : not (47 == 47 && (b == 46 || b == 47)) ≡ true = (and_parts _ _ both.0).1 in
    λ (e : b ≡ 47). grind (arith, nat_tests)

pub parsed_below : (base : Parts) (text : List ℕ) → IsValid base → kind_of base ≡ SpecialNotFile
    → is_plain_path text ≡ true → parse_url (Some base) text ≡ Ok (placed base text)
unfolding parse_url
parsed_below base text valid kind plain =
    let both = and_parts _ _ plain in
    let is : ltb 0 (length text) ≡ true = both.0 in
    let some : 0 < length text = grind (arith, nat_tests) in
    let first = no_slash_first text some both.1 in
    let all = all_plain 47 text both.1 in
    let above = All-weaker (Passes is_plain_byte) IsAbove
    (λ b h. grind (arith, nat_tests)) text all in
    let clean = ap strip_tabs_and_new_lines (untrimmed text above) ∙ unstripped text above in
    let hash = ap (split_once 35) clean
    ∙ split_once_none 35 text
    (All-weaker (Passes is_plain_byte) (IsNot 35) (λ b h e. grind (arith, nat_tests)) text all) in
    let question = ap (λ r. split_once 63 r.0) hash
    ∙ split_once_none 63 text
    (All-weaker (Passes is_plain_byte) (IsNot 63) (λ b h e. grind (arith, nat_tests)) text all) in
    let scheme = ap (λ r. split_scheme r.0) question ∙ no_scheme text all in
    (λ i. parse_by_scheme (scheme i) (Some base) (question i).0 (question i).1 (hash i).1)
    ∙ parsed_body base text valid kind some first both.1

-- ---- the text

pub serialized : (base : Parts) (text : List ℕ) → has_authority base ≡ true
    → serialize (placed base text) ≡ folder_of base ++ text
serialized base text authority = rw authority (simp (append_assoc, append-nil))

valid_path : (base : Parts) (text : List ℕ) → IsSegmentList SpecialNotFile base.path
    → is_plain_behind 47 text ≡ true
    → IsSegmentList SpecialNotFile (without_last_segment base.path ++ 47 ∷ text)
valid_path base text list plain =
    let kind = SpecialNotFile in
    let c = cut kind 47 text plain in
    let folder = without_last_valid kind base.path list in
    record {
      segments = folder.segments ++ c.front ∷ c.rest;
      joined = (λ i. folder.joined i ++ 47 ∷ c.is i)
          ∙ sym (flat_map-append (λ s. 47 ∷ s) folder.segments (c.front ∷ c.rest));
      each = All-append (IsSegment kind) folder.segments (c.front ∷ c.rest) folder.each
          (All-cons (IsSegment kind) c.front c.rest
          (segment_of kind c.front c.inner (c.start refl)) c.each);
    }

pub valid_below : (base : Parts) (text : List ℕ) → IsValid base → kind_of base ≡ SpecialNotFile
    → is_plain_behind 47 text ≡ true → IsValid (placed base text)
valid_below base text valid kind plain =
    let authority = special_has_authority base valid.head (ap is_special kind) in
    let list = hierarchical base valid.path (base_from_authority base authority) in
    let of_kind : SchemeType → Type 0 =
    λ k. IsSegmentList k (without_last_segment base.path ++ 47 ∷ text) in
    let path = valid_path base text (subst (λ k. IsSegmentList k base.path) kind list.0) plain in
    record {
      head = IsValidHead_same base (placed base text) refl valid.head;
      path = inl (subst of_kind (sym kind) path, λ _. simp length-append (omega arith));
      query = tt;
      fragment = tt;
    }

-- ---- the folder

pub special_kind : (scheme : List ℕ) → is_special (scheme_type scheme) ≡ true
    → bytes_eq scheme (codes "file") ≡ false → scheme_type scheme ≡ SpecialNotFile
unfolding scheme_type
special_kind scheme special other =
    let kind : scheme_type scheme ≡ cond (is_some (default_port scheme)) SpecialNotFile NotSpecial =
    cond-false _ _ _ other in
    ⊎_elim
    (λ (some : is_some (default_port scheme) ≡ true). kind ∙ cond-true _ _ _ some)
    (λ (none : is_some (default_port scheme) ≡ false). absurd
    (true≢false (sym special ∙ ap is_special (kind ∙ cond-false _ _ _ none))))
    (cases_Bool (is_some (default_port scheme)))

-- what stands before the path, the path, and what stands behind it
pub serialize_split : (url : Parts)
    → serialize url ≡ concat (take 10 (pieces url)) ++ (url.path ++ concat (drop 11 (pieces url)))
serialize_split url = sym (simp append_assoc refl)

-- ---- the address

clean_text : (text : List ℕ) → All (Passes is_plain_byte) text → has_control_or_space text ≡ false
clean_text text plain =
    let each =
    All-weaker (Passes is_plain_byte) (λ b. is_c0_control_or_space b ≡ false)
    (λ b h. grind (arith, nat_tests)) text plain in
    list_any_none is_c0_control_or_space text each

clean_below : (folder text : List ℕ) → has_control_or_space folder ≡ false
    → is_plain_path text ≡ true → has_control_or_space (folder ++ text) ≡ false
clean_below folder text clean plain =
    list_any-append is_c0_control_or_space folder text
    ∙ or_from _ _ clean (clean_text text (all_plain 47 text (and_parts _ _ plain).1))

-- the text up to the last slash of the path ends with that slash
folder_split : (base : Parts) (text : List ℕ)
    → folder_of base ++ text
    ≡ (concat (take 10 (pieces base)) ++ without_last_segment base.path) ++ 47 ∷ text
folder_split base text = simp append_assoc

-- what the code needs to know of a plain path below a folder
pub record IsBelow (base : Parts) (text whole : List ℕ) : Type 0 where
  pub address : IsPathAddress whole
  pub joined : join (serialize base) text ≡ within_limit whole

below_folder : (base : Parts) (text : List ℕ) → IsValid base → IsCanonical base
    → kind_of base ≡ SpecialNotFile → has_control_or_space (folder_of base) ≡ false
    → is_plain_path text ≡ true → IsBelow base text (folder_of base ++ text)
below_folder base text valid canonical kind clean plain =
    let whole = folder_of base ++ text in
    let authority = special_has_authority base valid.head (ap is_special kind) in
    let is : serialize (placed base text) ≡ whole = serialized base text authority in
    let placed_valid = valid_below base text valid kind (and_parts _ _ plain).1 in
    let parsed : parse_url None whole ≡ Ok (placed base text) =
    subst (λ t. parse_url None t ≡ Ok (placed base text)) is
    (parse_url-serialize_special (placed base text) None placed_valid kind) in
    let address : is_address whole ≡ true =
    and_from _ _ (ap not (clean_below (folder_of base) text clean plain))
    (ap (is_text_of whole) parsed ∙ is_text (placed base text) whole is) in
    let end : is_external whole ≡ ends_in_json whole =
    ap has_json_path parsed
    ∙ ends_in_json-behind_slash (without_last_segment base.path) text
    ∙ sym (ends_in_json-behind_slash
    (concat (take 10 (pieces base)) ++ without_last_segment base.path) text)
    ∙ ap ends_in_json (sym (folder_split base text)) in
    record {
      address = record { address = address; end = end };
      joined =
          join_parsed base text valid canonical
          ∙ ap address_in (parsed_below base text valid kind plain)
          ∙ cond-false _ _ _ (ap not (ap is_address is ∙ address))
          ∙ ap within_limit is;
    }

pub below : (base : Parts) (kept : Option (List ℕ)) (folder text whole : List ℕ) → IsBase base kept
    → IsFolder base folder → is_plain_path text ≡ true → whole ≡ folder ++ text
    → IsBelow base text whole
below base kept folder text whole b f plain is =
    let clean : has_control_or_space (folder_of base) ≡ false =
    subst (λ t. has_control_or_space t ≡ false) f.is f.clean in
    let same : folder_of base ++ text ≡ whole = ap (λ t. t ++ text) (sym f.is) ∙ sym is in
    subst (IsBelow base text) same
    (below_folder base text b.valid b.canonical f.special clean plain)
