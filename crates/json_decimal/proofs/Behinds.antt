-- What stands behind an item, as a step returns it.
use Rattle.std.proofs.Common.{◌≡◌, Some, None, sym, ap, ◌∙◌}
use Rattle.json_decimal.specs.Reading.{Behind, separator, closing, neither, either_behind}
use Rattle.json_decimal.specs.Seen.{behind_view}
use Rattle.json_decimal.specs.declared.scan.Behind as declared

some_behind : (b c : Behind) → Some c ≡ either_behind b → c ≡ b
some_behind (separator bs) c h = cc
some_behind (closing bs) c h = cc
some_behind neither c h = cc

pub no_behind : (b : Behind) → None ≡ either_behind b → neither ≡ b
no_behind (separator bs) h = cc
no_behind (closing bs) h = cc
no_behind neither h = cc

pub seen : (b : Behind) (next arm : declared.Behind) → Some (behind_view next) ≡ either_behind b
    → next ≡ arm → behind_view arm ≡ b
seen b next arm h is = sym (ap behind_view is) ∙ some_behind b (behind_view next) h
