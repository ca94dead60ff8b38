use Rattle.std.proofs.Common.{◌≡◌, ◌++◌, take}
use Rattle.std.specs.Prelude.{flat_map, string_bytes}
use Rattle.tile_uri.specs.Templates.{number_of, filled}
use Rattle.tile_uri.proofs.template.Template.write_behind.Given as goal

abbrev pub invariant-loop-part : goal.invariant-loop-part
invariant-loop-part l =
    string_bytes l.whole
    ≡ string_bytes l.initial.whole ++ flat_map
    (λ part. filled (number_of l.level l.x l.y l.z part.variable) part)
    (take l.part-index l.part-items)
