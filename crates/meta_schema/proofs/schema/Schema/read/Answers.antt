use Rattle.meta_schema.proofs.Kept.{schema_kept}
use Rattle.meta_schema.proofs.schema.Schema.read.Goals as goal

pub invariant_of-result : goal.invariant_of-result
invariant_of-result c =
    schema_kept _ _ c.in_ok-members.members c.in_ok-named.named c.in_ok-enums.enums
    c.in_ok-classes.classes c.in_ok-enums.ensures c.in_ok-named.ensures c.in_ok-classes.ensures
