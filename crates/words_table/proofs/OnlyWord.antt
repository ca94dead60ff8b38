-- What `clap` makes of the words behind a command that takes one, of which none begins with `-`.
use Rattle.std.proofs.Common.{◌≡◌, ◌≢◌, ◌∙◌, false, List, [], ◌∷◌, Some, codes, length, ap, refl, subst, arith}
use Rattle.std.proofs.lemmas.Bool.{or_parts}
use Rattle.clap.specs.Faults.{defaults_fault, fault_of, walk_fault}
use Rattle.clap.specs.Matches.{first_value, found_of}
use Rattle.clap.specs.Simple.{App, Shape, built, matches_of}
use Rattle.clap.specs.Walk.{Held, Text, Walk, finished, nothing_held}
use Rattle.clap.specs.declared.error.kind.ErrorKind.TheVariants.{MissingRequiredArgument}
use Rattle.clap.specs.declared.error.kind.ErrorKind.TheVariants.{UnknownArgument}
use Rattle.clap.specs.declared.parser.matches.ArgMatches.{ArgMatches}
use Rattle.clap.proofs.FaultLemmas.{leaf_fault}
use Rattle.words_table.specs.Commands.{HasNoOption, is_option}
use Rattle.words_table.specs.Places.{HasMatches, IsRefused, one_word_app}
use Rattle.words_table.proofs.Given.{value_at}
use Rattle.words_table.proofs.PlainWords.{fault_step, walk_behind, walked_plain}

abbrev top : Shape
top = (built one_word_app).top

-- behind the first word
abbrev behind_word : Text → Held
behind_word word = (walk_behind top.rules 1 word nothing_held).held

-- ---- what is wrong with the words

fault_of_none : fault_of one_word_app [] ≡ MissingRequiredArgument ∷ []
unfolding walk_fault defaults_fault
fault_of_none = refl

fault_of_one : (word : Text) → is_option word ≡ false → fault_of one_word_app (word ∷ []) ≡ []
unfolding walk_fault defaults_fault
fault_of_one word first =
    leaf_fault (built one_word_app) nothing_held (word ∷ []) refl
    ∙ fault_step top nothing_held 1 word [] first

fault_of_more : (word next : Text) (words : List Text) → is_option word ≡ false
    → is_option next ≡ false → fault_of one_word_app (word ∷ next ∷ words) ≡ UnknownArgument ∷ []
unfolding walk_fault defaults_fault
fault_of_more word next words first second =
    leaf_fault (built one_word_app) nothing_held (word ∷ next ∷ words) refl
    ∙ fault_step top nothing_held 1 word (next ∷ words) first
    ∙ fault_step top (behind_word word) 2 next words second

-- ---- one word

rows_of_one : (word : Text) → is_option word ≡ false
    → matches_of one_word_app (word ∷ []) ≡ finished top.rules (behind_word word)
rows_of_one word first =
    ap (λ (w : Walk). finished top.rules w.held) (walked_plain top.rules nothing_held 1 word first)

-- there is one word, and it is found at the place
pub record IsOnlyWord (words : List Text) (m : ArgMatches) : Type 0 where
  pub word : Text
  pub are : words ≡ word ∷ []
  pub at_word : first_value (found_of m) (codes "word") ≡ Some word

found : (words : List Text) (m : ArgMatches) → HasNoOption words → HasMatches one_word_app words m
    → IsOnlyWord words m
found [] m plain has = absurd (cc (fault_of_none, has.taken))
found (word ∷ []) m plain has =
    let first = (or_parts (is_option word) _ plain).0 in
    record {
      word = word;
      are = refl;
      at_word = value_at m (codes "word") _ (has.rows ∙ rows_of_one word first);
    }
found (word ∷ next ∷ words) m plain has =
    let first = or_parts (is_option word) _ plain in
    let second = or_parts (is_option next) _ first.1 in
    absurd (cc (fault_of_more word next words first.0 second.0, has.taken))

pub only_word_found : (app : App) (words : List Text) (m : ArgMatches) → app ≡ one_word_app
    → HasNoOption words → HasMatches app words m → IsOnlyWord words m
only_word_found app words m is plain has =
    let P : App → Type 0 = λ a. HasMatches a words m in
    found words m plain (subst P is has)

-- ---- any other number of words

refused : (words : List Text) → HasNoOption words → fault_of one_word_app words ≢ []
    → length words ≢ 1
refused [] plain some one = absurd (omega (arith, one))
refused (word ∷ []) plain some one = some (fault_of_one word (or_parts (is_option word) _ plain).0)
refused (word ∷ next ∷ words) plain some one = absurd (omega (arith, one))

pub only_word_refused : (app : App) (words : List Text) → app ≡ one_word_app → HasNoOption words
    → IsRefused app words → length words ≢ 1
only_word_refused app words is plain none =
    let P : App → Type 0 = λ a. IsRefused a words in
    refused words plain (subst P is none)
