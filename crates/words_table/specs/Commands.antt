-- The commands of the program: which words ask for which.
use Rattle.std.specs.Prelude.{◌≡◌, ℕ, List, [], ◌∷◌, Option, Some, None, Result, Ok, Err, Bool}
use Rattle.std.specs.Prelude.{bytes_eq, codes, false, map, nat_eq, if◌then◌else◌}
use Rattle.std.specs.Borrow.{Bor}
use Rattle.std.specs.List.{list_any, starts_with}
use Rattle.std.specs.Result.{result_ok}
use Rattle.tile_uri.specs.Addresses.{join}
use Rattle.session_script.specs.Chains.{◌>>=◌}
use Rattle.session_script.specs.Views.{view_of}
use Rattle.words_table.specs.declared.command.Command.{Command}
use Rattle.words_table.specs.declared.command.Command.TheVariants.{Cut, Tiles, Meta}
use Rattle.words_table.specs.declared.command_name.CommandName.{CommandName}
use Rattle.words_table.specs.declared.command_name.CommandName.TheVariants as name
use Rattle.words_table.specs.declared.error.WordsError.{WordsError}
use Rattle.words_table.specs.declared.error.WordsError.TheVariants.{NotACommand, OutOfMemory}

-- the words that are passed, as texts
abbrev pub texts : List (Bor (List ℕ)) → List (List ℕ)
texts = map (λ word. word.now)

-- ---- the table

-- the address that a root word stands for below `http://tiles/` (URL Standard, section 4.4)
abbrev pub root_of : List ℕ → Option (List ℕ)
root_of word = result_ok (join (codes "http://tiles/") word)

-- the address of the root word where it stands alone
abbrev pub root_alone : List (List ℕ) → Option (List ℕ)
root_alone (root ∷ []) = root_of root
root_alone _ = None

-- a root word, and the command of its address
abbrev pub Form : Type 0
Form = List ℕ × (List ℕ → Command)

-- `cut ROOT VIEW`
abbrev pub cut_form : List (List ℕ) → Option Form
cut_form (root ∷ view ∷ []) = view_of view >>= λ parts. Some (root, λ address. Cut address parts)
cut_form _ = None

-- `tiles ROOT`
abbrev pub tiles_form : List (List ℕ) → Option Form
tiles_form (root ∷ []) = Some (root, Tiles)
tiles_form _ = None

-- `meta ROOT`
abbrev pub meta_form : List (List ℕ) → Option Form
meta_form (root ∷ []) = Some (root, Meta)
meta_form _ = None

-- the form of the words behind the name of a command
abbrev pub form_behind : CommandName × List (List ℕ) → Option Form
form_behind (name.Cut, words) = cut_form words
form_behind (name.Tiles, words) = tiles_form words
form_behind (name.Meta, words) = meta_form words

-- the command of a form, if its root word stands for an address
abbrev pub command_in : Option Form → Option Command
command_in form = form >>= λ f. root_of f.0 >>= λ address. Some (f.1 address)

-- ---- the words

-- the command that a word names
abbrev pub name_of : List ℕ → Option CommandName
name_of word =
    if bytes_eq word (codes "cut") then Some name.Cut
    else (if bytes_eq word (codes "tiles") then Some name.Tiles
    else (if bytes_eq word (codes "meta") then Some name.Meta else None))

-- the word begins with `-`
abbrev pub is_option : List ℕ → Bool
is_option word = starts_with nat_eq word (codes "-")

-- none of the words is an option
abbrev pub HasNoOption : List (List ℕ) → Type 0
HasNoOption words = list_any is_option words ≡ false

-- the words, if none is an option
abbrev pub without_options : List (List ℕ) → Option (List (List ℕ))
without_options words = if list_any is_option words then None else Some words

-- the command that the first word names, with the words behind it, of which none is an option
abbrev pub named : List (List ℕ) → Option (CommandName × List (List ℕ))
named [] = None
named (word ∷ words) =
    name_of word >>= λ command. without_options words >>= λ behind. Some (command, behind)

-- the form of a command that the words have, if they have one
abbrev pub form_of : List (List ℕ) → Option Form
form_of words = named words >>= form_behind

-- the command that the words are, if they are one
abbrev pub command_of : List (List ℕ) → Option Command
command_of words = command_in (form_of words)

-- ---- answers

-- the answer is what is expected, and a refusal comes where nothing is, unless memory ran out
abbrev pub Answers : {A : Type 0} → Result A WordsError → Option A → Type 0
Answers (Ok x) expected = expected ≡ Some x
Answers (Err NotACommand) expected = expected ≡ None
Answers (Err OutOfMemory) expected = Unit {0}
