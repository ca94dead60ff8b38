use Rattle.view_notes.proofs.Taking.{others_stay}
use Rattle.view_notes.proofs.laws.wishes_lose_it_alone.Goals as goal

pub returns : goal.returns
returns c = λ a awaited view old new root s inc none waits.
    others_stay awaited view a old new root s inc none waits
