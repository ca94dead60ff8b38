-- How a text lies in memory.
use Rattle.std.specs.Prelude.{ℕ, ◌≤◌, List, take, ⊤, IsUtf8, string_bytes}
use Rattle.tile_types.specs.declared.text.Form.{Form}
use Rattle.tile_types.specs.declared.text.Form.TheVariants.{Short, Long}
use Rattle.tile_types.specs.declared.text.TheConstants.{SHORT_TEXT}

-- the bytes that a text stands for
abbrev pub form_bytes : Form → List ℕ
form_bytes (Short len bytes) = take len bytes
form_bytes (Long text) = string_bytes text

-- what holds of each text: a short one fits, and its bytes are UTF-8
abbrev pub IsForm : Form → Type 0
IsForm (Short len bytes) = (len ≤ SHORT_TEXT) × ∥ IsUtf8 (take len bytes) ∥₁
IsForm (Long text) = ⊤
