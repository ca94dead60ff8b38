-- Which keys a map finds.
use Rattle.std.proofs.Common.{◌≡◌}
use Rattle.std.proofs.Math.Path.{fun_ext}
use Rattle.tile_types.specs.declared.key.Key.{Key}
use Rattle.tile_types.specs.contracts.key.KeyPartialEq.TheImpl.{eq-value}
use Rattle.tile_types.specs.Keys.{same_key}
use Rattle.tile_types.proofs.Keys.{key_eq}

-- what a map's `==` finds is what the definitions find
pub eq_is_same : (key : Key) → eq-value.it key ≡ same_key key
eq_is_same key = fun_ext (key_eq key)
