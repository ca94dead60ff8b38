-- The commands as `clap` is told them, and what it makes of words.
use Rattle.std.specs.Prelude.{◌≡◌, ◌≢◌, ℕ, List, [], true, codes}
use Rattle.clap.specs.Faults.{fault_of}
use Rattle.clap.specs.Matches.{found_of}
use Rattle.clap.specs.Simple.{App, matches_of, new_app, new_rule, on_top, with_rule}
use Rattle.clap.specs.Walk.{Rule, rows_of}
use Rattle.clap.specs.declared.parser.matches.ArgMatches.{ArgMatches}

-- a place where a word has to stand
abbrev pub place : List ℕ → Rule
place name = record (new_rule name) { required = true }

-- a command of which all words are its own, with neither help nor version
abbrev pub plain_app : List ℕ → App
plain_app name = on_top (λ top. record top {
  no_binary_name = true;
  disable_help_flag = true;
  disable_version_flag = true;
}) (new_app name)

-- `cut ROOT VIEW`
abbrev pub cut_app : App
cut_app =
    with_rule (with_rule (plain_app (codes "cut")) (place (codes "root"))) (place (codes "view"))

-- a command that takes one word
abbrev pub one_word_app : App
one_word_app = with_rule (plain_app (codes "command")) (place (codes "word"))

-- the command takes the words, and these are its matches
pub record HasMatches (app : App) (words : List (List ℕ)) (matches : ArgMatches) : Type 0 where
  pub taken : fault_of app words ≡ []
  pub rows : rows_of (found_of matches) ≡ matches_of app words

-- the command doesn't take the words
abbrev pub IsRefused : App → List (List ℕ) → Type 0
IsRefused app words = fault_of app words ≢ []
