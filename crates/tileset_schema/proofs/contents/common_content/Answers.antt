use Rattle.tileset_schema.proofs.contents.common_content.Goals as goal

pub returns-in-Some-clause-value : goal.returns-in-Some-clause-value
returns-in-Some-clause-value c = rw c.in-Some.is c.one_content.ensures.value
