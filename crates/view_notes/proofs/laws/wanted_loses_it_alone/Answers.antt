use Rattle.view_notes.proofs.Views.{all_lose}
use Rattle.view_notes.proofs.laws.wanted_loses_it_alone.Goals as goal

pub returns : goal.returns
returns c = λ a views old new root each. all_lose old new root a views each
