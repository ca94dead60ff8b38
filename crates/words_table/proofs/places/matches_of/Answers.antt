use Rattle.std.proofs.lemmas.Bool.{and_parts}
use Rattle.words_table.proofs.places.matches_of.Goals as goal

pub returns-in-Ok-clause-found : goal.returns-in-Ok-clause-found
returns-in-Ok-clause-found c = record {
  taken = c.in-Ok.ensures.kinds c.requires;
  rows = (c.in-Ok.ensures.matches (and_parts _ _ c.requires).0).0;
}
