use Rattle.fixed_geometry.proofs.SpellingLaw.{fixed-text_of}
use Rattle.fixed_geometry.proofs.laws.decimal_follows_spelling.Goals as goal

pub returns : goal.returns
returns c = fixed-text_of
