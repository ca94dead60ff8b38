-- What is known of a key.
use Rattle.std.specs.Prelude.{Option, Some, None}

-- it is neither loaded nor absent; nothing comes of it; it reads as this
pub data Found (A : Type 0) : Type 0 where
  waiting : Found A
  lost : Found A
  here : A → Found A

abbrev pub here_of : {A : Type 0} → Found A → Option A
here_of waiting = None
here_of lost = None
here_of (here a) = Some a
