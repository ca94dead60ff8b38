-- What `clap` makes of the words behind `cut`, of which none begins with `-`.
use Rattle.std.proofs.Common.{◌≡◌, ◌≢◌, ◌∙◌, false, List, [], ◌∷◌, Some, codes, length, ap, refl, subst, arith}
use Rattle.std.proofs.lemmas.Bool.{or_parts}
use Rattle.clap.specs.Faults.{defaults_fault, fault_of, walk_fault}
use Rattle.clap.specs.Matches.{first_value, found_of}
use Rattle.clap.specs.Simple.{App, Shape, built, matches_of}
use Rattle.clap.specs.Walk.{Held, Text, Walk, finished, nothing_held, walked}
use Rattle.clap.specs.declared.error.kind.ErrorKind.TheVariants.{MissingRequiredArgument}
use Rattle.clap.specs.declared.error.kind.ErrorKind.TheVariants.{UnknownArgument}
use Rattle.clap.specs.declared.parser.matches.ArgMatches.{ArgMatches}
use Rattle.clap.proofs.FaultLemmas.{leaf_fault}
use Rattle.words_table.specs.Commands.{HasNoOption, is_option}
use Rattle.words_table.specs.Places.{HasMatches, IsRefused, cut_app}
use Rattle.words_table.proofs.Given.{value_at}
use Rattle.words_table.proofs.PlainWords.{fault_step, walk_behind, walked_plain}

abbrev top : Shape
top = (built cut_app).top

-- behind the first word
abbrev behind_root : Text → Held
behind_root root = (walk_behind top.rules 1 root nothing_held).held

-- behind the second
abbrev behind_view : Text → Text → Held
behind_view root view = (walk_behind top.rules 2 view (behind_root root)).held

-- ---- what is wrong with the words

fault_of_none : fault_of cut_app [] ≡ MissingRequiredArgument ∷ []
unfolding walk_fault defaults_fault
fault_of_none = refl

fault_of_one : (root : Text) → is_option root ≡ false
    → fault_of cut_app (root ∷ []) ≡ MissingRequiredArgument ∷ []
unfolding walk_fault defaults_fault
fault_of_one root first =
    leaf_fault (built cut_app) nothing_held (root ∷ []) refl
    ∙ fault_step top nothing_held 1 root [] first

fault_of_two : (root view : Text) → is_option root ≡ false → is_option view ≡ false
    → fault_of cut_app (root ∷ view ∷ []) ≡ []
unfolding walk_fault defaults_fault
fault_of_two root view first second =
    leaf_fault (built cut_app) nothing_held (root ∷ view ∷ []) refl
    ∙ fault_step top nothing_held 1 root (view ∷ []) first
    ∙ fault_step top (behind_root root) 2 view [] second

fault_of_more : (root view word : Text) (words : List Text) → is_option root ≡ false
    → is_option view ≡ false → is_option word ≡ false
    → fault_of cut_app (root ∷ view ∷ word ∷ words) ≡ UnknownArgument ∷ []
unfolding walk_fault defaults_fault
fault_of_more root view word words first second third =
    leaf_fault (built cut_app) nothing_held (root ∷ view ∷ word ∷ words) refl
    ∙ fault_step top nothing_held 1 root (view ∷ word ∷ words) first
    ∙ fault_step top (behind_root root) 2 view (word ∷ words) second
    ∙ fault_step top (behind_view root view) 3 word words third

-- ---- two words

rows_of_two : (root view : Text) → is_option root ≡ false → is_option view ≡ false
    → matches_of cut_app (root ∷ view ∷ []) ≡ finished top.rules (behind_view root view)
rows_of_two root view first second =
    ap (λ (w : Walk). finished top.rules (walked top.rules [] w view).held)
    (walked_plain top.rules nothing_held 1 root first)
    ∙ ap (λ (w : Walk). finished top.rules w.held)
    (walked_plain top.rules (behind_root root) 2 view second)

-- there are two words, and these are found at the places
pub record IsCutWords (words : List Text) (m : ArgMatches) : Type 0 where
  pub root : Text
  pub view : Text
  pub are : words ≡ root ∷ view ∷ []
  pub at_root : first_value (found_of m) (codes "root") ≡ Some root
  pub at_view : first_value (found_of m) (codes "view") ≡ Some view

found : (words : List Text) (m : ArgMatches) → HasNoOption words → HasMatches cut_app words m
    → IsCutWords words m
found [] m plain has = absurd (cc (fault_of_none, has.taken))
found (root ∷ []) m plain has =
    let first = (or_parts (is_option root) _ plain).0 in
    absurd (cc (fault_of_one root first, has.taken))
found (root ∷ view ∷ []) m plain has =
    let first = or_parts (is_option root) _ plain in
    let second = or_parts (is_option view) _ first.1 in
    let rows = has.rows ∙ rows_of_two root view first.0 second.0 in
    record {
      root = root;
      view = view;
      are = refl;
      at_root = value_at m (codes "root") _ rows;
      at_view = value_at m (codes "view") _ rows;
    }
found (root ∷ view ∷ word ∷ words) m plain has =
    let first = or_parts (is_option root) _ plain in
    let second = or_parts (is_option view) _ first.1 in
    let third = or_parts (is_option word) _ second.1 in
    absurd (cc (fault_of_more root view word words first.0 second.0 third.0, has.taken))

pub cut_words_found : (app : App) (words : List Text) (m : ArgMatches) → app ≡ cut_app
    → HasNoOption words → HasMatches app words m → IsCutWords words m
cut_words_found app words m is plain has =
    let P : App → Type 0 = λ a. HasMatches a words m in
    found words m plain (subst P is has)

-- ---- any other number of words

refused : (words : List Text) → HasNoOption words → fault_of cut_app words ≢ [] → length words ≢ 2
refused [] plain some two = absurd (omega (arith, two))
refused (root ∷ []) plain some two = absurd (omega (arith, two))
refused (root ∷ view ∷ []) plain some two =
    let first = or_parts (is_option root) _ plain in
    some (fault_of_two root view first.0 (or_parts (is_option view) _ first.1).0)
refused (root ∷ view ∷ word ∷ words) plain some two = absurd (omega (arith, two))

pub cut_words_refused : (app : App) (words : List Text) → app ≡ cut_app → HasNoOption words
    → IsRefused app words → length words ≢ 2
cut_words_refused app words is plain none =
    let P : App → Type 0 = λ a. IsRefused a words in
    refused words plain (subst P is none)
