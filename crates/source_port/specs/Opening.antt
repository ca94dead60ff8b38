-- Why a file isn't opened or read, by what the system tells.
use Rattle.std.specs.Prelude.{◌≡◌, ◌≢◌, ◌↔◌, Result, Ok, Err}
use Rattle.std.specs.declared.io.ErrorKind.{ErrorKind}
use Rattle.std.specs.declared.io.ErrorKind.TheVariants as kind
use Rattle.source_port.specs.declared.source.FetchError.{FetchError}
use Rattle.source_port.specs.declared.source.FetchError.TheVariants as fetch

-- a file that isn't found is missing; every other error of opening but want of memory is a fault
pub record IsOpeningCause (told : ErrorKind) (cause : FetchError) : Type 0 where
  pub missing : cause ≡ fetch.Missing ↔ (told ≡ kind.NotFound)
  pub out_of_memory : cause ≡ fetch.OutOfMemory ↔ (told ≡ kind.OutOfMemory)
  pub not_too_long : cause ≢ fetch.TooLong

-- what is open is there: every error of reading but want of memory is a fault
pub record IsReadingCause (told : ErrorKind) (cause : FetchError) : Type 0 where
  pub out_of_memory : cause ≡ fetch.OutOfMemory ↔ (told ≡ kind.OutOfMemory)
  pub not_missing : cause ≢ fetch.Missing
  pub not_too_long : cause ≢ fetch.TooLong

-- a call that was refused so answers this of opening
abbrev pub RefusesOpening : {A : Type 0} → ErrorKind → Result A FetchError → Type 0
RefusesOpening told (Ok a) = ⊥
RefusesOpening told (Err cause) = IsOpeningCause told cause
