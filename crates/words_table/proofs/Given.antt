-- Words that a command's matches hold at its places.
use Rattle.std.proofs.Common.{◌≡◌, ◌∙◌, Bor, List, Option, Some, None, IsSome, option_map, ap, refl}
use Rattle.clap.specs.Matches.{first_value, found_of}
use Rattle.clap.specs.Walk.{Row, Text, first_of, rows_of}
use Rattle.clap.specs.declared.parser.matches.ArgMatches.{ArgMatches}
use Rattle.clap.proofs.WalkLemmas.{first_value-rows}

pub value_at : (m : ArgMatches) (place : Text) (rows : List Row) → rows_of (found_of m) ≡ rows
    → first_value (found_of m) place ≡ first_of place rows
value_at m place rows same = first_value-rows (found_of m) place ∙ ap (first_of place) same

-- the answer is this word
abbrev pub Gives : Option (Bor Text) → Text → Type 0
Gives answer word = option_map (λ s. s.now) answer ≡ Some word

pub is_given : (answer : Option (Bor Text)) (word : Text) → Gives answer word → IsSome answer
is_given None word gives = absurd cc
is_given (Some x) word gives = refl

pub is_word : (answer : Option (Bor Text)) (x : Bor Text) (word : Text) → Gives answer word
    → answer ≡ Some x → word ≡ x.now
is_word answer x word gives same =
    let held : option_map (λ (s : Bor Text). s.now) answer ≡ Some x.now =
    ap (option_map (λ (s : Bor Text). s.now)) same in
    cc
