use Rattle.std.proofs.Common.{length, bytes_eq, ◌∙◌, ap}
use Rattle.meta_schema.specs.Kept.{IsClass}
use Rattle.meta_schema.specs.Schemas.{class_named}
use Rattle.meta_schema.proofs.Finds.{if_referred}
use Rattle.meta_schema.proofs.schema.Schema.class.Goals as goal

pub returns-clause-is : goal.returns-clause-is
returns-clause-is c =
    let name = c.args.name.now in
    let inside = c.self.inside in
    rw (← c.self.view_is)
    (if_referred (IsClass (length inside.enums)) (λ k. bytes_eq k.name name) inside.classes
    c.first_named.result
    (c.first_named.ensures ∙ ap (class_named name) c.as_slice.ensures)
    c.self.invariant.classes)
