use Rattle.std.proofs.Common.{rules, ◌≡◌, ◌+◌, ◌<◌, ◌≤◌, [], ◌∷◌, ◌++◌, take, drop, length, get_or, ap, sym, ◌∙◌, arith, length-append}
use Rattle.std.specs.List.{concat}
use Rattle.std.specs.Prelude.{unwrap_or}
use Rattle.std.proofs.Math.Seq.{take-append-add}
use Rattle.std.proofs.lemmas.List.{take_more, take-append-le, length-take-le}
use Rattle.url.specs.Path.{without_last_segment}
use Rattle.url.specs.Parts.{pieces, serialize}
use Rattle.url.proofs.InputLemmas.{rsplit_once_at_last}
use Rattle.tile_uri.proofs.PlainBelow.{special_kind, serialize_split}
use Rattle.tile_uri.proofs.base.folder_of.Goals as goal

pub returns-clause-special : goal.returns-clause-special
returns-clause-special c = special_kind c.args.url.now.scheme (search rules) (search rules)

pub returns-clause-value : goal.returns-clause-value
returns-clause-value c =
    let url = c.args.url.now in
    let i = c.in_ok-slash.slash in
    let head = concat (take 10 (pieces url)) in
    let tail = concat (drop 11 (pieces url)) in
    let last : get_or url.path i 0 ≡ 47 = search rules in
    let found = rsplit_once_at_last 47 url.path i (search rules) last (search rules) in
    let before : without_last_segment url.path ≡ take i url.path =
    ap (λ r. unwrap_or r.0 []) found in
    let path : take (i + 1) url.path ≡ without_last_segment url.path ++ 47 ∷ [] =
    take_more url.path i 0 (search rules) ∙ (λ k. sym before k ++ last k ∷ []) in
    let head_is : c.slice-head.result.now ≡ head = c.slice-head.ensures.value in
    let count : length c.slice-head.result.now + i + 1 ≡ length head + (i + 1) =
    ap (λ h. length h + i + 1) head_is ∙ omega arith in
    let inside : i + 1 ≤ length url.path = search rules in
    let n = length c.slice-head.result.now + i + 1 in
    let is : c.range.result.now ≡ take n (serialize url) = search rules in
    is
    ∙ (λ k. take (count k) (serialize_split url k))
    ∙ take-append-add head (url.path ++ tail) (i + 1)
    ∙ ap (λ p. head ++ p) (take-append-le (i + 1) url.path tail inside ∙ path)

pub returns-clause-front : goal.returns-clause-front
returns-clause-front c =
    let url = c.args.url.now in
    let n = length c.slice-head.result.now + c.in_ok-slash.slash + 1 in
    let is : c.range.result.now ≡ take n (serialize url) = search rules in
    let head = concat (take 10 (pieces url)) in
    let tail = concat (drop 11 (pieces url)) in
    let head_is : c.slice-head.result.now ≡ head = c.slice-head.ensures.value in
    let below : c.in_ok-slash.slash < length url.path = search rules in
    let size = ap length (serialize_split url) in
    let sum = length-append head (url.path ++ tail) in
    let rest = length-append url.path tail in
    let inside : n ≤ length (serialize url) =
    omega (arith, size, sum, rest, ap length head_is, below) in
    is ∙ ap (λ m. take m (serialize url))
    (sym (ap length is ∙ length-take-le n (serialize url) inside))
