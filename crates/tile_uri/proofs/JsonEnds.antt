-- Whether a path ends in `.json` shows behind its last slash.
use Rattle.std.proofs.Common.{◌≡◌, ℕ, ◌+◌, ◌-◌, ◌<◌, ◌≤◌, ◌==◌, true, false, ltb, List, [], ◌∷◌, ◌++◌, length, get_or, drop, sym, ap, ◌∙◌, ⊎_elim, arith, length-append, append_assoc}
use Rattle.std.specs.Prelude.{bytes_eq, codes}
use Rattle.std.specs.Char.{to_ascii_lowercase}
use Rattle.std.specs.Str.{str_to_ascii_lowercase}
use Rattle.std.specs.List.{list_any}
use Rattle.std.proofs.Math.ListN.{get_or-map}
use Rattle.std.proofs.Math.Seq.{drop-append-add, get_or-append_seam}
use Rattle.std.proofs.lemmas.List.{length-drop, length-map, get_or-drop}
use Rattle.url.proofs.HostLemmas.{none_from_list_any}
use Rattle.std.proofs.lemmas.Bool.{cases_Bool, false_from_ne_true, true≢false}
use Rattle.std.proofs.lemmas.Bool.Decides.{nat_tests}
use Rattle.std.proofs.lemmas.Slice.Eq.{bytes_eq-Decides}
use Rattle.tile_uri.specs.Addresses.{ends_in_json}

-- the last five bytes, or all where there are fewer
abbrev last_five : List ℕ → List ℕ
last_five path = drop (length path - 5) path

abbrev lowered : List ℕ → List ℕ
lowered path = str_to_ascii_lowercase (last_five path)

-- what ends in `.json` has five bytes
length-lowered : (path : List ℕ) → ends_in_json path ≡ true → length (last_five path) ≡ 5
length-lowered path is =
    let same : lowered path ≡ str_to_ascii_lowercase (codes ".json") =
    (bytes_eq-Decides _ _).0 is in
    sym (length-map (last_five path) to_ascii_lowercase) ∙ ap length same

too_short : (text : List ℕ) → length text < 5 → ends_in_json text ≡ false
too_short text short =
    false_from_ne_true _ (λ is.
    let five = length-lowered text is in
    let count = length-drop (length text - 5) text in
    absurd (omega (arith, five, count)))

-- a slash among the last five bytes
slash_inside : (front text : List ℕ) → length text < 5 → ends_in_json (front ++ 47 ∷ text) ≡ false
slash_inside front text short =
    let whole = front ++ 47 ∷ text in
    false_from_ne_true _ (λ is.
    let same : lowered whole ≡ str_to_ascii_lowercase (codes ".json") =
    (bytes_eq-Decides _ _).0 is in
    let five = length-lowered whole is in
    let count = length-drop (length whole - 5) whole in
    let sum : length whole ≡ length front + (length text + 1) =
    simp length-append (omega arith) in
    let k = length front - (length whole - 5) in
    let place : (length whole - 5) + k ≡ length front = omega (arith, five, count, sum) in
    let slash : get_or (last_five whole) k 0 ≡ 47 =
    get_or-drop (length whole - 5) whole k 0
    ∙ ap (λ n. get_or whole n 0) place
    ∙ get_or-append_seam front 47 text 0 in
    let inside : k < length (last_five whole) = omega (arith, five, sum) in
    let lower : get_or (lowered whole) k 0 ≡ 47 =
    get_or-map to_ascii_lowercase (last_five whole) k 0 ∙ ap to_ascii_lowercase slash in
    let none : list_any (λ b. b == 47) (lowered whole) ≡ false =
    ap (list_any (λ b. b == 47)) same in
    let other : (get_or (lowered whole) k 0 == 47) ≡ false =
    none_from_list_any (λ b. b == 47) (lowered whole) none k 0
    (omega (arith, inside, length-map (last_five whole) to_ascii_lowercase)) in
    true≢false (sym (ap (λ b. b == 47) lower) ∙ other))

pub ends_in_json-behind_slash : (front text : List ℕ)
    → ends_in_json (front ++ 47 ∷ text) ≡ ends_in_json text
ends_in_json-behind_slash front text =
    ⊎_elim
    (λ (short : ltb (length text) 5 ≡ true).
    let less : length text < 5 = grind (arith, nat_tests) in
    slash_inside front text less ∙ sym (too_short text less))
    (λ (long : ltb (length text) 5 ≡ false).
    let more : 5 ≤ length text = grind (arith, nat_tests) in
    let whole : front ++ 47 ∷ text ≡ (front ++ 47 ∷ []) ++ text =
    sym (append_assoc front (47 ∷ []) text) in
    let count : length ((front ++ 47 ∷ []) ++ text) - 5
    ≡ length (front ++ 47 ∷ []) + (length text - 5) =
    simp length-append (omega arith) in
    let same : last_five (front ++ 47 ∷ text) ≡ last_five text =
    ap last_five whole
    ∙ ap (λ n. drop n ((front ++ 47 ∷ []) ++ text)) count
    ∙ drop-append-add (front ++ 47 ∷ []) text (length text - 5) in
    ap (λ end. bytes_eq (str_to_ascii_lowercase end) (str_to_ascii_lowercase (codes ".json"))) same)
    (cases_Bool (ltb (length text) 5))
