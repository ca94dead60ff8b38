-- The last member of a name, one member after another.
use Rattle.std.proofs.Common.{◌≡◌, ℕ, List, Bool, true, false, Option, Some, None, if◌then◌else◌, bytes_eq, refl, ap, sym, ◌∙◌}
use Rattle.json_decimal.specs.JsonValue.{JsonValue, later, last_of}
use Rattle.json_decimal.specs.Parts.{split_first}
use Rattle.json_decimal.proofs.Parted.{split_some}
use Rattle.subtree_binary.specs.Availability.{Members}
use Rattle.subtree_binary.specs.Seen.{with_last}

-- the first of those that are left is taken
pub one_last : (name : List ℕ) (value : Option JsonValue) (rest left : Members)
    (m : List ℕ × JsonValue) → Some (m, left) ≡ split_first rest
    → later (last_of name left) (with_last name value m) ≡ later (last_of name rest) value
one_last name value rest left m first =
    go (last_of name left) (bytes_eq m.0 name)
    ∙ ap (λ ms. later (last_of name ms) value) (sym (split_some rest left m first))
  where
    go : (o : Option JsonValue) (b : Bool)
        → later o (if b then Some m.1 else value)
        ≡ later (later o (if b then Some m.1 else None)) value
    go (Some v) b = refl
    go None true = refl
    go None false = refl
