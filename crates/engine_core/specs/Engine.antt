-- What an engine is seen as.
use Rattle.std.specs.Prelude.{ℕ, List}
use Rattle.engine_state.specs.declared.entry.Entry.{Entry}

-- its journal, and how many entries that may have
pub record Engine : Type 0 where
  pub journal : List Entry
  pub room : ℕ
