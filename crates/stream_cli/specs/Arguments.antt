-- The words that the program is given.
use Rattle.std.specs.Prelude.{◌≡◌, ◌≢◌, ℕ, List, map, drop, string_bytes}
use Rattle.std.specs.Iterator.{DrainsIf}
use Rattle.std.specs.Vec.Iter.{into_iter_steps}
use Rattle.std.specs.declared.alloc.Global.{Global}
use Rattle.std.specs.declared.io.ErrorKind.{ErrorKind}
use Rattle.std.specs.declared.io.ErrorKind.TheVariants as kind
use Rattle.std.specs.declared.string.String.{String}
use Rattle.std.specs.declared.vec.IntoIter.{IntoIter}
use Rattle.stream_cli.specs.declared.cause.Cause.{Cause}
use Rattle.stream_cli.specs.declared.cause.Cause.TheVariants.{Memory, Words}

-- the words behind the program's name, which its arguments begin with
abbrev pub words_behind : List (String Global) → List (List ℕ)
words_behind arguments = map string_bytes (drop 1 arguments)

-- the arguments that an iterator gives, one by one
abbrev pub Given : Type 0
Given = IntoIter (String Global) Global

-- these are all that it gives, in order
abbrev pub AreGiven : Given → List (String Global) → Type 0
AreGiven given arguments = DrainsIf into_iter_steps (Unit {0}) given arguments

-- this holds of the words behind the program's name
pub record OfGiven (given : Given) (holds : List (List ℕ) → Type 0) : Type 0 where
  pub arguments : List (String Global)
  pub are : AreGiven given arguments
  pub of_words : holds (words_behind arguments)

-- what a program ends with whose arguments aren't told, by the kind of the system's error: those that
-- aren't UTF-8 are the words of no command
pub record IsUnreadCause (told : ErrorKind) (cause : Cause) : Type 0 where
  pub memory : told ≡ kind.OutOfMemory → cause ≡ Memory
  pub words : told ≢ kind.OutOfMemory → cause ≡ Words
