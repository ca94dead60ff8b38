-- Wants by their keys.
use Rattle.std.specs.Prelude.{List, map}
use Rattle.tile_types.specs.declared.key.Key.{Key}
use Rattle.tile_types.specs.declared.want.Want.{Want}
use Rattle.tile_types.specs.Wants.{Ranks}
use Rattle.cut_core.specs.Wants.{want_with}
use Rattle.cut_core.specs.declared.want_map.WantMap.{WantMap}

abbrev pub want_at : Key × Ranks → Want
want_at entry = want_with entry.1 entry.0

abbrev pub wants_in : WantMap → List Want
wants_in wants = map want_at wants.facts.entries
