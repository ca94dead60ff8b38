-- Contents that were fetched are the library's.
use Rattle.std.proofs.Common.{◌≡◌, ℕ, Bool, true, false, ◌||◌, Option, Some, None, List, [], ◌∷◌, ◌++◌, length, map, filter, fold, All}
use Rattle.std.proofs.Common.{refl, sym, ap, ◌∙◌, rules, inl, inr, bytes_eq}
use Rattle.std.specs.Prelude.{if◌then◌else◌}
use Rattle.std.specs.List.{list_any}
use Rattle.std.specs.Cmp.Lexicographic.{same_text}
use Rattle.std.proofs.lemmas.List.Elements.{All-head, All-tail, All-nil, All-cons}
use Rattle.std.proofs.lemmas.List.Folds.{list_any-append}
use Rattle.source_port.specs.Library.{Library}
use Rattle.content_digest.specs.declared.limits.TheConstants.{CONTENT_LIMIT}
use Rattle.cut_core.specs.declared.line.CutLine.{CutLine}
use Rattle.tree_expansion.specs.Whole.{if_within}
use Rattle.stream_cli.specs.Contents.{AreFetched, Contents, FetchedContent, GivesContent, WasGiven, addresses_in, bytes_in, contents_of, with_address}
use Rattle.stream_cli.specs.Report.{content_line, cut_text}
use Rattle.stream_cli.proofs.Lacking.{is_there}
use Rattle.stream_cli.proofs.Limits.{is_within, isnt_within}

-- ---- what the source gave is what the library has within the limit

given_is : (library : Library) (address : List ℕ) (bytes : Option (List ℕ))
    → GivesContent (Some library) address bytes → bytes ≡ contents_of library address
given_is library address (Some bytes) given =
    sym (ap (if_within CONTENT_LIMIT) given.0
    ∙ ap (λ b. if b then Some bytes else None)
    (is_within (length bytes) CONTENT_LIMIT given.1))
given_is library address None given = elim given [
  | inl lacks ↦ sym (ap (if_within CONTENT_LIMIT) lacks)
  | inr long ↦ sym (ap (if_within CONTENT_LIMIT) long.1
      ∙ ap (λ b. if b then Some long.0 else None)
      (isnt_within (length long.0) CONTENT_LIMIT long.2))
]

given_at : (library : Library) (contents : List FetchedContent)
    → All (WasGiven (Some library)) contents → (address : List ℕ)
    → list_any (bytes_eq address) (map (λ content. content.address) contents) ≡ true
    → bytes_in contents address ≡ contents_of library address
given_at library [] given address among = cc
given_at library (c ∷ cs) given address among =
    elim (bytes_eq address c.address) as (λ b. bytes_eq address c.address ≡ b
    → (b || list_any (bytes_eq address) (map (λ content. content.address) cs)) ≡ true
    → (if b then c.bytes else bytes_in cs address) ≡ contents_of library address) [
      | true ↦ λ same h.
          given_is library c.address c.bytes (All-head (WasGiven (Some library)) c cs given)
          ∙ ap (contents_of library) (sym (same_text address c.address (sym same)))
      | false ↦ λ other h.
          given_at library cs (All-tail (WasGiven (Some library)) c cs given) address h
    ] refl among

-- ---- the address of each line was asked for

any_left : (a b : Bool) → a ≡ true → (a || b) ≡ true
any_left true b e = refl
any_left false b e = cc

any_right : (a b : Bool) → b ≡ true → (a || b) ≡ true
any_right true b e = refl
any_right false b e = e

text_is_itself : (address : List ℕ) → bytes_eq address address ≡ true
text_is_itself address = search rules

still_seen : (address : List ℕ) (seen : List (List ℕ)) (other : List ℕ)
    → list_any (bytes_eq address) seen ≡ true
    → list_any (bytes_eq address) (with_address seen other) ≡ true
still_seen address seen other h =
    elim (list_any (bytes_eq other) seen) as (λ b.
    list_any (bytes_eq address) (if b then seen else seen ++ other ∷ []) ≡ true) [
      | true ↦ h
      | false ↦ list_any-append (bytes_eq address) seen (other ∷ [])
          ∙ any_left (list_any (bytes_eq address) seen) _ h
    ]

now_seen : (address : List ℕ) (seen : List (List ℕ))
    → list_any (bytes_eq address) (with_address seen address) ≡ true
now_seen address seen =
    elim (list_any (bytes_eq address) seen) as (λ b. list_any (bytes_eq address) seen ≡ b
    → list_any (bytes_eq address) (if b then seen else seen ++ address ∷ []) ≡ true) [
      | true ↦ λ e. e
      | false ↦ λ e.
          list_any-append (bytes_eq address) seen (address ∷ [])
          ∙ any_right (list_any (bytes_eq address) seen) _
          (any_left (bytes_eq address address) _ (text_is_itself address))
    ] refl

seen_later : (address : List ℕ) (more seen : List (List ℕ))
    → list_any (bytes_eq address) seen ≡ true
    → list_any (bytes_eq address) (fold with_address seen more) ≡ true
seen_later address [] seen h = h
seen_later address (other ∷ more) seen h =
    seen_later address more (with_address seen other) (still_seen address seen other h)

each_seen : (P : List ℕ → Type 0) (lines : List CutLine) (seen : List (List ℕ))
    → ((address : List ℕ)
    → list_any (bytes_eq address) (fold with_address seen (map (λ line. line.address) lines)) ≡ true
    → P address)
    → All (λ line. P line.address) lines
each_seen P [] seen each = All-nil (λ line. P line.address)
each_seen P (line ∷ lines) seen each =
    All-cons (λ line. P line.address) line lines
    (each line.address
    (seen_later line.address (map (λ line. line.address) lines)
    (with_address seen line.address) (now_seen line.address seen)))
    (each_seen P lines (with_address seen line.address) each)

-- ---- so a cut has the same text

-- the contents of these lines are the same
abbrev pub Agree : Contents → Contents → List CutLine → Type 0
Agree a b lines = All (λ line. a line.address ≡ b line.address) lines

pub given_agree : (library : Library) (lines : List CutLine) (contents : List FetchedContent)
    → AreFetched (Some library) (addresses_in lines) contents
    → Agree (bytes_in contents) (contents_of library) lines
given_agree library lines contents fetched =
    each_seen (λ address. bytes_in contents address ≡ contents_of library address) lines []
    (λ address among.
    given_at library contents fetched.given address
    (ap (list_any (bytes_eq address)) fetched.each ∙ among))

same_lines : (a b : Contents) (lines : List CutLine) → Agree a b lines
    → filter (is_there a) lines ≡ filter (is_there b) lines
same_lines a b [] all = refl
same_lines a b (line ∷ lines) all =
    let rest = same_lines a b lines (All-tail (λ line. a line.address ≡ b line.address) line lines all) in
    let here = All-head (λ line. a line.address ≡ b line.address) line lines all in
    elim (b line.address) as (λ c. a line.address ≡ c → b line.address ≡ c
    → filter (is_there a) (line ∷ lines) ≡ filter (is_there b) (line ∷ lines)) [
      | None ↦ λ e f. rw (e, f) rest
      | Some bytes ↦ λ e f. rw (e, f) (ap (λ ls. line ∷ ls) rest)
    ] here refl

same_texts : (a b : Contents) (lines : List CutLine) → Agree a b lines
    → map (λ line. content_line line (a line.address)) (filter (is_there a) lines)
    ≡ map (λ line. content_line line (b line.address)) (filter (is_there b) lines)
same_texts a b [] all = refl
same_texts a b (line ∷ lines) all =
    let rest = same_texts a b lines (All-tail (λ line. a line.address ≡ b line.address) line lines all) in
    let here = All-head (λ line. a line.address ≡ b line.address) line lines all in
    elim (b line.address) as (λ c. a line.address ≡ c → b line.address ≡ c
    → map (λ line. content_line line (a line.address)) (filter (is_there a) (line ∷ lines))
    ≡ map (λ line. content_line line (b line.address)) (filter (is_there b) (line ∷ lines))) [
      | None ↦ λ e f. rw (e, f) rest
      | Some bytes ↦ λ e f.
          rw (e, f)
          (ap (λ text. text ∷ map (λ line. content_line line (a line.address))
          (filter (is_there a) lines)) (ap (content_line line) (e ∙ sym f))
          ∙ ap (λ texts. content_line line (b line.address) ∷ texts) rest)
    ] here refl

pub same_cut : (a b : Contents) (lines : List CutLine) → Agree a b lines
    → cut_text a (filter (is_there a) lines) ≡ cut_text b (filter (is_there b) lines)
same_cut a b lines all = rw (same_texts a b lines all, ap length (same_lines a b lines all)) refl
