use Rattle.std.proofs.Common.{◌≡◌, drop}
use Rattle.json_decimal.specs.Handles.{json_of, text_in}
use Rattle.json_decimal.specs.Named.{plain, seen}
use Rattle.json_decimal.proofs.NamedValues.{put_from}
use Rattle.json_decimal.proofs.json_members.put.Given as goal

abbrev pub invariant-loop-i : goal.invariant-loop-i
invariant-loop-i l =
    put_from (plain (drop l.i l.names)) l.i (seen l.values) (text_in l.name, json_of l.value)
    ≡ put_from (plain l.names) 0 (seen l.fn.values) (text_in l.name, json_of l.value)
